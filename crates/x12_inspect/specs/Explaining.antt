-- Explaining a transmission: whether each of its interchanges can be read, and what its answers close in
-- a file that was sent.
use Rattle.std.specs.Prelude.{◌≡◌, ℕ, Bool, List, [], map, flat_map, Option, Some, None, Result, Ok, Err, true, false, if◌then◌else◌, refl}
use Rattle.std.specs.List.{list_all}
use Rattle.x12_envelopes.specs.declared.header.Header.{Header}
use Rattle.x12_envelopes.specs.declared.header.HeaderFault.{HeaderFault}
use Rattle.x12_envelopes.specs.declared.party.Party.{Party}
use Rattle.x12_envelopes.specs.Header.{header_of}
use Rattle.x12_envelopes.specs.Outline.{outline_of}
use Rattle.x12_judge.specs.Agreement.{is_same_party}
use Rattle.x12_judge.specs.Interchange.{Reading}
use Rattle.x12_acks.specs.Answer.{Acknowledgment, answers_of}
use Rattle.x12_sent.specs.declared.sent.SentFile.{SentFile}
use Rattle.x12_sent.specs.Closing.{AreClosedBy}
use Rattle.x12_sent.specs.Sent.{file_sender, file_ledgers}
use Rattle.x12_inspect.specs.declared.inspecting.Outcome.{Outcome}
use Rattle.x12_inspect.specs.Inspecting.{EndsAs, WasAsked}

-- an outline was read
abbrev pub reading_has_outline : Reading → Bool
reading_has_outline (Ok x) = true
reading_has_outline (Err fault) = false

abbrev pub can_be_read_by : List ℕ → Result Header HeaderFault → Bool
can_be_read_by bytes (Ok h) = reading_has_outline (outline_of h.delims bytes)
can_be_read_by bytes (Err fault) = false

-- an interchange of which header and outline can be read
unfoldable pub can_be_read : List ℕ → Bool
can_be_read bytes = can_be_read_by bytes (header_of bytes)

-- a transmission is explained: all is right exactly where each of its interchanges can be read
abbrev pub EndsAsExplained : List ℕ → Outcome → Type 0
EndsAsExplained = EndsAs (list_all can_be_read)

-- an answer, with the party that it is from
abbrev pub from_party : Party → Acknowledgment → Party × Acknowledgment
from_party from answer = (from, answer)

-- the answers of an interchange with this header, each with the party that it is from: to this party,
-- if it is the receiver
abbrev pub answers_received : Party → Header → List Acknowledgment → List (Party × Acknowledgment)
answers_received me h answers =
    if is_same_party me h.receiver then map (from_party h.sender) answers else []

abbrev pub answers_outlined : Party → Header → Reading → List (Party × Acknowledgment)
answers_outlined me h (Ok x) = answers_received me h (answers_of h.delims x)
answers_outlined me h (Err fault) = []

abbrev pub answers_by : Party → List ℕ → Result Header HeaderFault → List (Party × Acknowledgment)
answers_by me bytes (Ok h) = answers_outlined me h (outline_of h.delims bytes)
answers_by me bytes (Err fault) = []

-- what an interchange answers to this party; nothing where it can't be read, or is to another party
unfoldable pub answers_to_party : Party → List ℕ → List (Party × Acknowledgment)
answers_to_party me bytes = answers_by me bytes (header_of bytes)

-- a file that was sent becomes another: these answers to its sender were told, one after another
pub record IsLeftBy (answers : Party → List (Party × Acknowledgment)) (old new : SentFile)
    : Type 0 where
  pub sender : file_sender new ≡ file_sender old
  pub whole : (file_ledgers new).whole ≡ (file_ledgers old).whole
  pub told : AreClosedBy (file_ledgers old).left (answers (file_sender old)) (file_ledgers new).left

-- the same, where a file may be given
abbrev pub MayBeLeftBy :
    (Party → List (Party × Acknowledgment)) → Option SentFile → Option SentFile → Type 0
MayBeLeftBy answers None None = Unit {0}
MayBeLeftBy answers (Some old) (Some new) = IsLeftBy answers old new
MayBeLeftBy answers None (Some new) = ⊥
MayBeLeftBy answers (Some old) None = ⊥

-- where nothing is told, all is as it was
pub none_told : (sent : Option SentFile) → MayBeLeftBy (λ me. []) sent sent
none_told None = tt
none_told (Some s) = record { sender = refl; whole = refl; told = refl }

-- a transmission is explained beside a file that was sent: its answers to the file's sender are told,
-- in order
abbrev pub LeavesSent : List ℕ → Option SentFile → Option SentFile → Type 0
LeavesSent input old new =
    WasAsked (λ interchanges. MayBeLeftBy (λ me. flat_map (answers_to_party me) interchanges) old new) input
