-- Lemmas on what may be submitted, one interchange after another.
use Rattle.std.proofs.Common.{◌≡◌, ◌≢◌, ℕ, Bool, true, false, List, [], ◌∷◌, Option, Some, None, Ok, ◌&&◌, is_none, refl, ◌∙◌}
use Rattle.x12_numbers.specs.Book.{Numbers, Uses}
use Rattle.x12_envelopes.specs.declared.header.Header.{Header}
use Rattle.x12_envelopes.specs.declared.party.Party.{Party}
use Rattle.x12_envelopes.specs.Header.{header_of}
use Rattle.x12_envelopes.specs.Outline.{outline_of}
use Rattle.x12_envelopes.specs.Shape.{Interchange}
use Rattle.x12_outbound.specs.declared.submitting.SubmitFault.{SubmitFault}
use Rattle.x12_outbound.specs.declared.submitting.SubmitFault.TheVariants.{Memory}
use Rattle.x12_outbound.specs.Submitting.{IsSubmitRefusal, numbers_of_groups, submit_fault}
use Rattle.x12_sent.specs.Sender.{book_behind, all_submitted}

-- behind what is submitted the last numbers are its own
pub book_raised : (me : Party) (book next : Numbers) (bytes : List ℕ) (h : Header) (x : Interchange) → submit_fault me book bytes ≡ None → header_of bytes ≡ Ok h → outline_of h.delims bytes ≡ Ok x
    → Uses book next (h.icn ∷ []) (numbers_of_groups x) → next ≡ book_behind me book bytes
unfolding book_behind
book_raised me book next bytes h x none is there uses = uses.book ∙ rw (none, is, there) refl

-- and behind what isn't as they were
pub book_stays : (me : Party) (book : Numbers) (bytes : List ℕ) → is_none (submit_fault me book bytes) ≡ false → book_behind me book bytes ≡ book
unfolding book_behind
book_stays me book bytes refused = rw refused refl

-- a refusal that isn't want of memory is the table's row
pub row_unless_memory : (row : Option SubmitFault) (fault : SubmitFault) → fault ≢ Memory → IsSubmitRefusal row fault → row ≡ Some fault
row_unless_memory row Memory other is = absurd (other refl)
row_unless_memory row fault other is = is

-- one interchange more, which may be submitted or not
pub submitted_on : (me mine : Party) (book next : Numbers) (bytes : List ℕ) (more : List (List ℕ)) (all right whole after : Bool) →
    mine ≡ me → right ≡ is_none (submit_fault mine book bytes) → next ≡ book_behind mine book bytes →
    (all && all_submitted me book (bytes ∷ more)) ≡ whole → after ≡ (all && right) → (after && all_submitted me next more) ≡ whole
submitted_on me mine book next bytes more true right whole after same is goes was now = rw (now, is, goes, same) was
submitted_on me mine book next bytes more false right whole after same is goes was now = rw now was
