-- What answers close in a sender's ledger.
use Rattle.std.specs.Prelude.{◌≡◌, List, [], ◌∷◌, ◌++◌, option_to_list}
use Rattle.x12_envelopes.specs.declared.party.Party.{Party}
use Rattle.x12_acks.specs.Answer.{Acknowledgment}
use Rattle.x12_acks.specs.Evidence.{Evidence, answer_evidence}
use Rattle.x12_acks.specs.Submission.{TransactionSetKey}
use Rattle.x12_outbound.specs.declared.fate.Fate.{Fate}
use Rattle.x12_outbound.specs.Ledger.{OutboundLedger, ledger_submissions, fates}
use Rattle.x12_outbound.specs.Plan.{HoldsWhatIsOpen}
use Rattle.x12_outbound.specs.Settling.{Fates, finding, fates_after, settled_fates, target_by}

-- the sets that pieces of evidence close, where sets fare so: each that is pending, with the fate
-- that the first piece about it tells
unfoldable pub closed_by : Fates → List Evidence → List (TransactionSetKey × Fate)
closed_by fates [] = []
closed_by fates (piece ∷ pieces) =
    option_to_list (target_by (finding fates piece) piece)
    ++ closed_by (fates_after fates piece) pieces

-- the evidence that an answer from this party is for a ledger
abbrev pub evidence_for : OutboundLedger → Party → Acknowledgment → List Evidence
evidence_for v from answer = answer_evidence v.hubs (ledger_submissions v) from answer

-- the ledger of what a file's sender submitted, as it was at first, and as answers left it
pub record SentLedgers : Type 0 where
  pub whole : OutboundLedger
  pub left : OutboundLedger

-- an answer from this party was told: what it is about is closed, where it was pending, and the ledger
-- holds what is pending still
abbrev pub IsClosedBy : OutboundLedger → Party → Acknowledgment → OutboundLedger → Type 0
IsClosedBy old from answer new =
    HoldsWhatIsOpen old new (settled_fates (fates old) (evidence_for old from answer))

-- an answer was told, and what came behind it
pub record IsClosedFirst (old : OutboundLedger) (from : Party) (answer : Acknowledgment)
    (more : OutboundLedger → Type 0) : Type 0 where
  pub left : OutboundLedger
  pub told : IsClosedBy old from answer left
  pub behind : more left

-- answers were told, one after another, each with the party that it is from
abbrev pub AreClosedBy : OutboundLedger → List (Party × Acknowledgment) → OutboundLedger → Type 0
AreClosedBy old [] new = old ≡ new
AreClosedBy old (first ∷ more) new = IsClosedFirst old first.0 first.1 (λ left. AreClosedBy left more new)
