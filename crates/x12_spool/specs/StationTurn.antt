-- What a station does in a turn: steps of its definition, while its records answer.
use Rattle.std.specs.Prelude.{◌≡◌, Err, IsTrue, List, Some, map, ℕ}
use Rattle.x12_envelopes.specs.declared.header.HeaderFault.{HeaderFault}
use Rattle.x12_envelopes.specs.declared.moment.Moment.{Moment}
use Rattle.x12_envelopes.specs.Header.{header_of}
use Rattle.x12_profile.specs.Interchange.{Bytes}
use Rattle.x12_profile.specs.X12.{x12}
use Rattle.x12_station.specs.Seen.{StationView}
use Rattle.x12_station.specs.StationStep.{arrive, tick}
use Rattle.x12_spool.specs.declared.node.Reason.{Reason}
use Rattle.x12_spool.specs.declared.node.Reason.TheVariants.{NoHeader}
use Rattle.x12_spool.specs.Node.{Offered, plain_offer}

-- bytes without a header that can be read
abbrev pub IsUnreadable : Bytes → Reason → Type 0
IsUnreadable b reason = (fault : HeaderFault) × (header_of b ≡ Err fault) × (reason ≡ NoHeader fault)

-- an arrival, and what the station sends of it
abbrev pub IsArrivalAt : {R : Type 0} → Moment → Bytes → StationView R → StationView R → List Bytes → Type 0
IsArrivalAt at b old new sends = IsTrue new.answers → IsTrue old.answers
    × (arrive x12 old.state at b ≡ Some (record { station = new.state; sends = sends }))

-- what is due at a tick
abbrev pub IsDueAt : {R : Type 0} → ℕ → StationView R → StationView R → List Offered → Type 0
IsDueAt now old new offered = IsTrue new.answers → IsTrue old.answers × (sends : List Bytes)
    × (tick x12 old.state now ≡ record { station = new.state; sends = sends }) × (offered ≡ map plain_offer sends)

-- the station is as it was
abbrev pub IsSameStation : {R : Type 0} → StationView R → StationView R → Type 0
IsSameStation old new = IsTrue new.answers → IsTrue old.answers × (new.state ≡ old.state)
