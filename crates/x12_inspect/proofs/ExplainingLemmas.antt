-- Lemmas on what answers leave of a file that was sent.
use Rattle.std.proofs.Common.{◌≡◌, ◌≢◌, ℕ, false, List, [], ◌∷◌, ◌++◌, flat_map, Option, Some, None, Ok, Err, refl, ap, ◌∙◌}
use Rattle.x12_envelopes.specs.declared.header.Header.{Header}
use Rattle.x12_envelopes.specs.declared.header.HeaderFault.{HeaderFault}
use Rattle.x12_envelopes.specs.declared.party.Party.{Party}
use Rattle.x12_envelopes.specs.declared.shape.OutlineFault.{OutlineFault}
use Rattle.x12_envelopes.specs.declared.shape.OutlineFault.TheVariants.{Memory}
use Rattle.x12_envelopes.specs.Header.{header_of}
use Rattle.x12_envelopes.specs.Outline.{outline_of}
use Rattle.x12_envelopes.specs.Shape.{Interchange, GivesUnlessMemory, outline_view}
use Rattle.x12_acks.specs.Answer.{Acknowledgment, answers_of}
use Rattle.x12_outbound.specs.Ledger.{OutboundLedger}
use Rattle.x12_sent.specs.declared.sent.SentFile.{SentFile}
use Rattle.x12_sent.specs.Closing.{AreClosedBy}
use Rattle.x12_sent.specs.Sent.{file_sender, file_ledgers}
use Rattle.x12_inspect.specs.Explaining.{can_be_read, answers_received, answers_to_party, IsLeftBy, MayBeLeftBy}

-- answers that were told, and then more
told_on : (u v w : OutboundLedger) (xs ys : List (Party × Acknowledgment)) → AreClosedBy u xs v → AreClosedBy v ys w → AreClosedBy u (xs ++ ys) w
told_on u v w [] ys same more = rw same more
told_on u v w (x ∷ xs) ys first more = record { left = first.left; told = first.told; behind = told_on first.left v w xs ys first.behind more }

left_on : (f g all : Party → List (Party × Acknowledgment)) (a b c : SentFile) → ((me : Party) → all me ≡ f me ++ g me) → IsLeftBy f a b → IsLeftBy g b c → IsLeftBy all a c
left_on f g all a b c is first more = record {
  sender = more.sender ∙ first.sender;
  whole = more.whole ∙ first.whole;
  told = rw (is (file_sender a)) (told_on (file_ledgers a).left (file_ledgers b).left (file_ledgers c).left (f (file_sender a)) (g (file_sender a)) first.told (rw first.sender at more.told));
}

pub may_left_on : (f g all : Party → List (Party × Acknowledgment)) (a b c : Option SentFile) → ((me : Party) → all me ≡ f me ++ g me) →
    MayBeLeftBy f a b → MayBeLeftBy g b c → MayBeLeftBy all a c
may_left_on f g all None None None is first more = tt
may_left_on f g all None None (Some c) is first more = absurd more
may_left_on f g all None (Some b) c is first more = absurd first
may_left_on f g all (Some a) None c is first more = absurd first
may_left_on f g all (Some a) (Some b) None is first more = absurd more
may_left_on f g all (Some a) (Some b) (Some c) is first more = left_on f g all a b c is first more

-- what an interchange answers, where its header or its outline can't be read, and where they can
pub no_header : (bytes : List ℕ) (fault : HeaderFault) → header_of bytes ≡ Err fault → (me : Party) → answers_to_party me bytes ≡ []
unfolding answers_to_party
no_header bytes fault is me = rw is refl

pub no_outline : (bytes : List ℕ) (h : Header) (fault : OutlineFault) → header_of bytes ≡ Ok h → outline_of h.delims bytes ≡ Err fault → (me : Party) → answers_to_party me bytes ≡ []
unfolding answers_to_party
no_outline bytes h fault is none me = rw (is, none) refl

pub all_read : (bytes : List ℕ) (h : Header) (x : Interchange) → header_of bytes ≡ Ok h → outline_of h.delims bytes ≡ Ok x →
    (me : Party) → answers_to_party me bytes ≡ answers_received me h (answers_of h.delims x)
unfolding answers_to_party
all_read bytes h x is read me = rw (is, read) refl

-- a fault that isn't want of memory is the reading's
pub unless_memory : (h : Header) (bytes : List ℕ) (fault : OutlineFault) → fault ≢ Memory →
    GivesUnlessMemory (outline_view h.delims) (Err fault) (outline_of h.delims bytes) → outline_of h.delims bytes ≡ Err fault
unless_memory h bytes Memory other is = absurd (other refl)
unless_memory h bytes fault other is = is

pub unread : (bytes : List ℕ) (h : Header) (fault : OutlineFault) → header_of bytes ≡ Ok h → outline_of h.delims bytes ≡ Err fault → can_be_read bytes ≡ false
unfolding can_be_read
unread bytes h fault is none = rw (is, none) refl

-- an interchange more
pub one_asked : (bytes : List ℕ) (more : List (List ℕ)) (f : Party → List (Party × Acknowledgment)) (a b c : Option SentFile) → ((me : Party) → answers_to_party me bytes ≡ f me) →
    MayBeLeftBy f a b → MayBeLeftBy (λ me. flat_map (answers_to_party me) more) b c → MayBeLeftBy (λ me. flat_map (answers_to_party me) (bytes ∷ more)) a c
one_asked bytes more f a b c is first rest =
    may_left_on f (λ me. flat_map (answers_to_party me) more) (λ me. flat_map (answers_to_party me) (bytes ∷ more)) a b c (λ me. ap (λ xs. xs ++ flat_map (answers_to_party me) more) (is me)) first rest
