-- How often the records of the nodes failed, and that no refusal says so where none did.
use Rattle.std.specs.Prelude.{◌≡◌, ℕ, List, ◌∷◌, ◌++◌, Some, map, set, slice_get, Result, OnOk, IfErr}
use Rattle.x12_hub.specs.declared.fault.HubFault.TheVariants as hub
use Rattle.x12_numbers.specs.Count.{CountRose}
use Rattle.x12_station.specs.Seen.{StationView}
use Rattle.x12_station.specs.declared.fault.StationFault.TheVariants as station
use Rattle.x12_core.specs.declared.fault.NodeFault.TheVariants.{OfStation, OfHub}
use Rattle.x12_world.specs.declared.hubs.Hubs.{Hubs as CodeHubs}
use Rattle.x12_world.specs.declared.refused.Refused.{Refused}
use Rattle.x12_world.specs.declared.refused.Refused.TheVariants as code
use Rattle.x12_core.specs.declared.fault.CoreFault.{CoreFault}
use Rattle.x12_world.specs.RefusedNumber.{refused_by_core}
use Rattle.x12_world.specs.Running.{second_failures}

-- how often the records of each station failed
abbrev pub station_failures : {R : Type 0} → List (StationView R) → List ℕ
station_failures ss = map (λ s. s.failures) ss

-- how often the records of each node failed: the first hub's, these, and the second hub's
abbrev pub failures_beside : {H : Type 0} → CodeHubs H → List ℕ → List ℕ
failures_beside h ns = (h.first.failures ∷ ns) ++ second_failures h.second

abbrev pub failures_of : {H R : Type 0} → CodeHubs H → List (StationView R) → List ℕ
failures_of h ss = failures_beside h (station_failures ss)

-- the count of failures of one node's records, at some place, rose, and those of the others stayed
pub record OneFailed (old new : List ℕ) : Type 0 where
  pub place : ℕ
  pub before : ℕ
  pub after : ℕ
  pub was : slice_get old place ≡ Some before
  pub rose : CountRose before after
  pub others : new ≡ set old place after

-- where a refusal says that a node's records failed, those of one node did, and this was counted
abbrev pub SaysOneFailed : Refused → (old new : List ℕ) → Type 0
SaysOneFailed (code.Node (OfStation fault)) old new = fault ≡ station.Store → OneFailed old new
SaysOneFailed (code.Node (OfHub fault)) old new = fault ≡ hub.Store → OneFailed old new
SaysOneFailed code.NoSuchPacket old new = Unit {0}
SaysOneFailed code.SpokenFor old new = Unit {0}
SaysOneFailed code.NoSuchNode old new = Unit {0}
SaysOneFailed code.Memory old new = Unit {0}
SaysOneFailed code.BadNetwork old new = Unit {0}
SaysOneFailed code.Exhausted old new = Unit {0}

-- where a refusal says that this station's records failed, this was counted; it says so of no hub
abbrev pub SaysFailed : Refused → (old new : ℕ) → Type 0
SaysFailed (code.Node (OfStation fault)) old new = fault ≡ station.Store → CountRose old new
SaysFailed (code.Node (OfHub fault)) old new = ⊥
SaysFailed code.NoSuchPacket old new = Unit {0}
SaysFailed code.SpokenFor old new = Unit {0}
SaysFailed code.NoSuchNode old new = Unit {0}
SaysFailed code.Memory old new = Unit {0}
SaysFailed code.BadNetwork old new = Unit {0}
SaysFailed code.Exhausted old new = Unit {0}

-- How a call of one station counts: an Ok leaves the count as it was.
pub record CountsStation {A : Type 0} (r : Result A Refused) (old new : ℕ) : Type 0 where
  pub ok : OnOk r (new ≡ old)
  pub refused : IfErr r (λ e. SaysFailed e old new)

-- How a call of a network counts: an Ok leaves each count as it was.
pub record CountsOne {A : Type 0} (r : Result A Refused) (old new : List ℕ) : Type 0 where
  pub ok : OnOk r (new ≡ old)
  pub refused : IfErr r (λ e. SaysOneFailed e old new)

-- How a call of a core of one of the nodes counts.
pub record CountsAsked {A : Type 0} (r : Result A CoreFault) (old new : List ℕ) : Type 0 where
  pub ok : OnOk r (new ≡ old)
  pub refused : IfErr r (λ f. SaysOneFailed (refused_by_core f) old new)
