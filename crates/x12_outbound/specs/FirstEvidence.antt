-- That the first evidence settles: a pending transaction set takes the fate of the first piece that
-- tells of it, and the evidence for its interchange alone is enough.
use Rattle.std.specs.Prelude.{◌≡◌, List, [], ◌∷◌, Option, Some, None, if◌then◌else◌, Contains}
use Rattle.x12_envelopes.specs.declared.party.Party.{Party}
use Rattle.x12_acks.specs.Answer.{Acknowledgment}
use Rattle.x12_acks.specs.Submission.{Submission, TransactionSetKey}
use Rattle.x12_acks.specs.Evidence.{Evidence, tells, unmatched, FinalFate, evidence_of}
use Rattle.x12_acks.specs.Key.{is_same_key}
use Rattle.x12_acks.specs.Named.{SubmissionsRise}
use Rattle.x12_outbound.specs.declared.fate.Fate.{Fate}
use Rattle.x12_outbound.specs.declared.fate.Fate.TheVariants.{Pending}
use Rattle.x12_outbound.specs.Fate.{ended}
use Rattle.x12_outbound.specs.Settling.{Fates, settled_fates}

-- the fate that the first piece about the set of this key tells
abbrev pub first_about : TransactionSetKey → List Evidence → Option FinalFate
first_about k [] = None
first_about k (tells key fate ∷ pieces) =
    if is_same_key key k then Some fate else first_about k pieces
first_about k (unmatched ∷ pieces) = first_about k pieces

-- a pending set takes the fate that it is told first; any other keeps its own
abbrev pub fate_by_first : Option FinalFate → Option Fate → Option Fate
fate_by_first (Some fate) (Some Pending) = Some (ended fate)
fate_by_first told other = other

-- After evidence a pending set has the fate of the first piece about it, and any other is as it
-- was.
abbrev pub FirstEvidenceSettles : Type 0
FirstEvidenceSettles =
    (fates : Fates) (pieces : List Evidence) (k : TransactionSetKey) →
    settled_fates fates pieces k ≡ fate_by_first (first_about k pieces) (fates k)

-- How a set fares after the answers of an arrival is what these tell of its interchange alone,
-- where the numbers of the submitted interchanges rise.
abbrev pub FateOfEach : Type 0
FateOfEach =
    (fates : Fates) (hubs : List Party) (from : Party) (all : List Submission) (x : Submission)
    (answers : List Acknowledgment) (k : TransactionSetKey) →
    SubmissionsRise all → Contains all x → k.icn ≡ x.icn →
    settled_fates fates (evidence_of hubs all from answers) k
    ≡ fate_by_first (first_about k (evidence_of hubs (x ∷ []) from answers)) (fates k)

-- So a ledger that holds some of the submitted interchanges, as the open ones, settles their sets
-- as one that holds all.
abbrev pub OpenOnesSettleAlone : Type 0
OpenOnesSettleAlone =
    (fates : Fates) (hubs : List Party) (from : Party) (all near : List Submission)
    (x : Submission) (answers : List Acknowledgment) (k : TransactionSetKey) →
    SubmissionsRise all → Contains all x → SubmissionsRise near → Contains near x → k.icn ≡ x.icn →
    settled_fates fates (evidence_of hubs near from answers) k
    ≡ settled_fates fates (evidence_of hubs all from answers) k

-- the three together
pub record EvidenceSettles : Type 0 where
  pub first : FirstEvidenceSettles
  pub each : FateOfEach
  pub alone : OpenOnesSettleAlone
