-- What a ledger plans for the answers of an interchange: the evidence that they bring, piece by
-- piece, and what each piece is, those before it counted.
use Rattle.std.specs.Prelude.{ℕ, ◌≡◌, ◌≢◌, Bool, true, false, not, ◌||◌, List, ◌++◌, map, filter, count_by, Contains, Option, Some, None, is_some, if◌then◌else◌}
use Rattle.std.specs.List.{AllByRecursion, list_any}
use Rattle.std.specs.Option.{option_or}
use Rattle.x12_envelopes.specs.declared.party.Party.{Party}
use Rattle.x12_acks.specs.Answer.{Acknowledgment, unclear}
use Rattle.x12_acks.specs.Evidence.{Evidence}
use Rattle.x12_acks.specs.Submission.{Submission, TransactionSetKey, keyed_sets}
use Rattle.x12_outbound.specs.Piece.{Finding, Settles, SetStatement, PlannedPiece}
use Rattle.x12_outbound.specs.declared.fate.Fate.{Fate}
use Rattle.x12_outbound.specs.declared.fate.Fate.TheVariants.{Pending}
use Rattle.x12_outbound.specs.declared.schedule.Schedule.{Schedule}
use Rattle.x12_outbound.specs.Fate.{is_pending}
use Rattle.x12_outbound.specs.Entry.{submission_of_entry}
use Rattle.x12_outbound.specs.Matching.{SetNumbers, is_about, stated}
use Rattle.x12_outbound.specs.Settling.{Fates, findings}
use Rattle.x12_outbound.specs.Ledger.{OutboundLedger, ledger_submissions, interchange_numbered, fates, numbers_of}

-- the pieces that are left, and how many answers were unclear
pub record Plan : Type 0 where
  pub pieces : List PlannedPiece
  pub unclear : ℕ

-- the evidence that the pieces are, and what each of them was found to be
abbrev pub evidence_in : List PlannedPiece → List Evidence
evidence_in pieces = map (λ p. stated p.statement) pieces

abbrev pub findings_in : List PlannedPiece → List Finding
findings_in pieces = map (λ p. p.finding) pieces

-- a statement names the numbers of the set that it is about, and comes from one who may say so
abbrev pub is_about_set : List Party → SetStatement → Option SetNumbers → Bool
is_about_set hubs s None = false
is_about_set hubs s (Some n) = is_about hubs n s

abbrev pub names_its_set :
    List Party → (TransactionSetKey → Option SetNumbers) → Option SetStatement → Bool
names_its_set hubs numbers None = true
names_its_set hubs numbers (Some s) = is_about_set hubs s (numbers s.key)

-- a piece that settles a set
abbrev pub is_settling : Finding → Bool
is_settling Settles = true
is_settling finding = false

-- a piece that settles a set of this ledger names its numbers
abbrev pub names_what_it_settles : OutboundLedger → PlannedPiece → Bool
names_what_it_settles v p =
    not (is_settling p.finding) || names_its_set v.hubs (numbers_of v) p.statement

-- Pieces that this ledger, as it stands, may settle by: those settle that settle here, one after
-- the other, and each of them names its set.
pub record IsPlan (v : OutboundLedger) (pieces : List PlannedPiece) : Type 0 where
  pub named : AllByRecursion (λ p. names_what_it_settles v p ≡ true) pieces
  pub settles :
      map is_settling (findings_in pieces)
      ≡ map is_settling (findings (fates v) (evidence_in pieces))

-- Beside the ledger, closed interchanges of the same sender, which were found elsewhere: none of
-- them has a pending set, and the ledger holds none of their numbers.
pub record IsClosedBeside (v closed : OutboundLedger) : Type 0 where
  pub me : closed.me ≡ v.me
  pub ended : (key : TransactionSetKey) → fates closed key ≢ Some Pending
  pub apart :
      (e d : Submission) → Contains (ledger_submissions v) e →
      Contains (ledger_submissions closed) d →
      e.icn ≢ d.icn

-- what was submitted, and how each set fares and which numbers it has: by the ledger, and else by
-- the closed interchanges
abbrev pub submissions_of_both : OutboundLedger → OutboundLedger → List Submission
submissions_of_both v closed = ledger_submissions v ++ ledger_submissions closed

abbrev pub fates_of_both : OutboundLedger → OutboundLedger → Fates
fates_of_both v closed = λ key. option_or (fates v key) (fates closed key)

abbrev pub numbers_of_both :
    OutboundLedger → OutboundLedger → TransactionSetKey → Option SetNumbers
numbers_of_both v closed = λ key. option_or (numbers_of v key) (numbers_of closed key)

-- each piece names the numbers of the set that it is about, and what it was found to be is what it
-- is, those before it counted
pub record ArePieces (v closed : OutboundLedger) (pieces : List PlannedPiece) : Type 0 where
  pub named :
      AllByRecursion (λ p. names_its_set v.hubs (numbers_of_both v closed) p.statement ≡ true)
      pieces
  pub found : findings_in pieces ≡ findings (fates_of_both v closed) (evidence_in pieces)

-- how many answers are unclear
abbrev pub answer_is_unclear : Acknowledgment → Bool
answer_is_unclear unclear = true
answer_is_unclear answer = false

unfoldable pub unclear_answers : List Acknowledgment → ℕ
unclear_answers answers = count_by answer_is_unclear answers

-- settling changes fates alone
pub record KeepsSubmissions (old new : OutboundLedger) : Type 0 where
  pub me : new.me ≡ old.me
  pub hubs : new.hubs ≡ old.hubs
  pub tick : new.tick ≡ old.tick
  pub submitted : ledger_submissions new ≡ ledger_submissions old
  pub schedules : map (λ r. r.schedule) new.rows ≡ map (λ r. r.schedule) old.rows

-- what was submitted, each with its schedule
unfoldable pub scheduled : OutboundLedger → List (Submission × Schedule)
scheduled v = map (λ r. (submission_of_entry v.me r.interchange, r.schedule)) v.rows

-- a set of the submission is pending, where sets fare so
abbrev pub is_pending_at : Option Fate → Bool
is_pending_at None = false
is_pending_at (Some fate) = is_pending fate

unfoldable pub is_open_by : Fates → Submission → Bool
is_open_by fates e = list_any (λ s. is_pending_at (fates s.key)) (keyed_sets e)

-- The ledger after settling, where sets fare so then: it holds what has a pending set, as it was
-- scheduled, and nothing else.
pub record HoldsWhatIsOpen (old new : OutboundLedger) (fare : Fates) : Type 0 where
  pub me : new.me ≡ old.me
  pub hubs : new.hubs ≡ old.hubs
  pub tick : new.tick ≡ old.tick
  pub scheduled : scheduled new ≡ filter (λ s. is_open_by fare s.0) (scheduled old)
  pub fates :
      (key : TransactionSetKey) →
      fates new key ≡ (if is_some (interchange_numbered new key.icn) then fare key else None)
