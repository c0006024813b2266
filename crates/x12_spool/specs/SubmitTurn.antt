-- What a station does with prepared interchanges in a turn, while its records answer.
use Rattle.std.specs.Global.{Global}
use Rattle.std.specs.Prelude.{◌≡◌, ◌≢◌, ◌⊎◌, ◌∷◌, [], IsTrue, List, None, Option, Some, Vec, ℕ, ⊤}
use Rattle.x12_profile.specs.Interchange.{Bytes}
use Rattle.x12_profile.specs.X12.{x12}
use Rattle.x12_station.specs.declared.fault.StationFault.{StationFault}
use Rattle.x12_station.specs.declared.fault.StationFault.TheVariants.{Memory, NotNew, Store}
use Rattle.x12_station.specs.Fault.{prepared_fault}
use Rattle.x12_station.specs.History.{submission_under}
use Rattle.x12_station.specs.Outgoing.{outgoing_bytes}
use Rattle.x12_station.specs.Seen.{StationView}
use Rattle.x12_station.specs.StationStep.{submit}
use Rattle.x12_spool.specs.declared.station.StationAt.{StationAt}
use Rattle.x12_spool.specs.declared.submitting.Submitting.{Submitting}
use Rattle.x12_spool.specs.declared.node.Answer.{Answer}
use Rattle.x12_spool.specs.declared.node.Answer.TheVariants.{Sends, Refused}
use Rattle.x12_spool.specs.declared.node.Reason.{Reason}
use Rattle.x12_spool.specs.declared.node.Reason.TheVariants.{NotSubmitted}

-- these bytes were submitted before, under their own number
abbrev pub IsKnown : {R : Type 0} → Bytes → StationView R → StationView R → Type 0
IsKnown b old new =
    IsTrue new.answers → IsTrue old.answers × (new.state ≡ old.state)
    × ((icn : ℕ) × (submission_under x12 old.state.items icn ≡ Some b))

-- what was submitted under the number of these bytes, if anything was
abbrev pub IsKnownAs : {R : Type 0} → StationView R → StationView R → Bytes → Option (Vec ℕ Global) → Type 0
IsKnownAs old new b None = ⊤
IsKnownAs old new b (Some v) = IsKnown v.items old new

-- what is said of bytes whose number isn't new
abbrev pub IsSentBefore : {R : Type 0} → StationView R → StationView R → Bytes → Answer → Type 0
IsSentBefore old new b (Sends None) = ⊥
IsSentBefore old new b (Sends (Some o)) = (outgoing_bytes o ≡ b) × IsKnown b old new
IsSentBefore old new b (Refused reason) = reason ≡ NotSubmitted NotNew

-- Bytes are submitted and sent; or they were submitted before, and are sent again.
abbrev pub IsSubmittedNow : {R : Type 0} → Bytes → StationView R → StationView R → List Bytes → Type 0
IsSubmittedNow b old new sends =
    (IsTrue new.answers → IsTrue old.answers × (submit x12 old.state b ≡ Some (record { station = new.state; sends = sends })))
    ⊎ (IsKnown b old new × (sends ≡ b ∷ []))

-- Why bytes may not be submitted: the row of the station's table that says so. For want of memory, or where the records failed, no
-- bytes are refused.
abbrev pub MayNotSubmit : {R : Type 0} → Bytes → StationView R → StationView R → Reason → Type 0
MayNotSubmit b old new reason =
    (fault : StationFault) × (reason ≡ NotSubmitted fault) × (fault ≢ Memory) × (fault ≢ Store)
    × (IsTrue new.answers → prepared_fault old.state b ≡ Some fault)

-- a station at a moment, as the node that submits
abbrev pub submitting : {R : Type 0} → StationAt R → Submitting R
submitting n = record { alloc = n.alloc; station = n.station }
