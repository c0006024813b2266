-- What the station of a node says, and why a network says nothing.
use Rattle.std.specs.Prelude.{◌≡◌, ℕ, List, Bool, true, false, IsTrue, Option, Some, map}
use Rattle.x12_acks.specs.Submission.{TransactionSetKey}
use Rattle.x12_outbound.specs.declared.fate.Fate.{Fate}
use Rattle.x12_profile.specs.X12.{x12}
use Rattle.x12_station.specs.Fault.{IsOfRecords}
use Rattle.x12_station.specs.Seen.{StationView}
use Rattle.x12_station.specs.Station.{Station}
use Rattle.x12_station.specs.StationStep.{fate_by_key}
use Rattle.x12_world.specs.declared.refused.Refused.{Refused}
use Rattle.x12_world.specs.declared.refused.Refused.TheVariants as code
use Rattle.x12_core.specs.declared.fault.NodeFault.TheVariants.{OfStation, OfHub}
use Rattle.x12_world.specs.Audit.{station_named}
use Rattle.x12_core.specs.Node.{IsStation, is_station}
use Rattle.x12_world.specs.Nodes.{Nodes, node_at}
use Rattle.x12_world.specs.Running.{Running, answers_at}
use Rattle.x12_world.specs.World.{World}
use Rattle.x12_envelopes.specs.declared.party.Party.{Party}

-- node i is a station, of which this holds
abbrev pub IsSaidAt : Nodes → ℕ → (Station → Type 0) → Type 0
IsSaidAt nodes i says = (s : Station) × (node_at nodes i ≡ Some (IsStation s)) × says s

-- the states of stations
abbrev pub states_of : {R : Type 0} → List (StationView R) → List Station
states_of ss = map (λ s. s.state) ss

-- the records of the station that had this party in a world answer
abbrev pub PartyAnswers : World → Party → Running → Type 0
PartyAnswers w party r = (i : ℕ) (s : Station) → node_at w.nodes i ≡ Some (IsStation s)
    → s.me ≡ party → IsTrue (answers_at r i)

-- the station of a key's sender holds its set as this
abbrev pub HoldsByKey : World → TransactionSetKey → Option Fate → Type 0
HoldsByKey w k fate =
    (s : Station) × (station_named w k.sender ≡ Some s) × (fate ≡ fate_by_key x12 s k)

-- there is no such station; or it is there, and its records failed or missed memory
abbrev pub IsUnanswered : (there : Bool) → Refused → Type 0
IsUnanswered there code.NoSuchNode = there ≡ false
IsUnanswered there (code.Node (OfStation fault)) = (there ≡ true) × IsOfRecords fault
IsUnanswered there (code.Node (OfHub fault)) = ⊥
IsUnanswered there code.NoSuchPacket = ⊥
IsUnanswered there code.SpokenFor = ⊥
IsUnanswered there code.Memory = ⊥
IsUnanswered there code.BadNetwork = ⊥
IsUnanswered there code.Exhausted = ⊥

-- memory was missing, or the records of a station failed or missed memory
abbrev pub IsMissed : Refused → Type 0
IsMissed code.Memory = Unit {0}
IsMissed (code.Node (OfStation fault)) = IsOfRecords fault
IsMissed (code.Node (OfHub fault)) = ⊥
IsMissed code.NoSuchNode = ⊥
IsMissed code.NoSuchPacket = ⊥
IsMissed code.SpokenFor = ⊥
IsMissed code.BadNetwork = ⊥
IsMissed code.Exhausted = ⊥

-- node i is no station; or its records failed, or missed memory
abbrev pub IsAskRefused : Nodes → ℕ → Refused → Type 0
IsAskRefused nodes i code.NoSuchNode = is_station (node_at nodes i) ≡ false
IsAskRefused nodes i (code.Node (OfStation fault)) =
    (is_station (node_at nodes i) ≡ true) × IsOfRecords fault
IsAskRefused nodes i (code.Node (OfHub fault)) = ⊥
IsAskRefused nodes i code.Memory = ⊥
IsAskRefused nodes i code.Exhausted = ⊥
IsAskRefused nodes i code.NoSuchPacket = ⊥
IsAskRefused nodes i code.SpokenFor = ⊥
IsAskRefused nodes i code.BadNetwork = ⊥
