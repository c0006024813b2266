-- What a sender may submit, one interchange after another (X12.5, X12.6).
use Rattle.std.specs.Prelude.{ℕ, Bool, true, ◌&&◌, List, [], ◌∷◌, is_none, Result, Ok, Err, if◌then◌else◌}
use Rattle.x12_numbers.specs.Book.{Numbers, book_after}
use Rattle.x12_envelopes.specs.declared.header.Header.{Header}
use Rattle.x12_envelopes.specs.declared.header.HeaderFault.{HeaderFault}
use Rattle.x12_envelopes.specs.declared.party.Party.{Party}
use Rattle.x12_envelopes.specs.Header.{header_of}
use Rattle.x12_envelopes.specs.Outline.{outline_of}
use Rattle.x12_judge.specs.Interchange.{Reading}
use Rattle.x12_outbound.specs.Submitting.{numbers_of_groups, submit_fault}

-- the last numbers used, once an interchange that can be read is submitted
abbrev pub book_read : Numbers → Header → Reading → Numbers
book_read book h (Ok x) = book_after book (h.icn ∷ []) (numbers_of_groups x)
book_read book h (Err fault) = book

abbrev pub book_by : Numbers → List ℕ → Result Header HeaderFault → Numbers
book_by book bytes (Ok h) = book_read book h (outline_of h.delims bytes)
book_by book bytes (Err fault) = book

-- the last numbers used behind these bytes, which may be submitted or not
unfoldable pub book_behind : Party → Numbers → List ℕ → Numbers
book_behind me book bytes =
    if is_none (submit_fault me book bytes) then book_by book bytes (header_of bytes) else book

-- each of these interchanges may be submitted, in turn
abbrev pub all_submitted : Party → Numbers → List (List ℕ) → Bool
all_submitted me book [] = true
all_submitted me book (bytes ∷ more) =
    is_none (submit_fault me book bytes) && all_submitted me (book_behind me book bytes) more
