-- What a call of a node leaves of its records and of their disk, and what a stop leaves then.
use Rattle.std.specs.Prelude.{◌⊎◌, Bool, true, IsTrue, Option, Some, None, Result, OnOk}
use Rattle.x12_core.specs.Ask.{Ask, Fate}
use Rattle.x12_core.specs.Core.{core_answers, core_clean}
use Rattle.x12_core.specs.declared.node_core.Core.{Core}
use Rattle.x12_core.specs.declared.node_core.Core.TheVariants as core
use Rattle.x12_core.specs.Effect.{Effect}
use Rattle.x12_core.specs.Node.{Node, IsHub, IsStation}
use Rattle.x12_hub.specs.declared.records.HubRecords.{Ghosts as HubGhosts}
use Rattle.x12_hub.specs.HubView.{HubView}
use Rattle.x12_hub.specs.Stopped.{HoldsHub, HubIsKept}
use Rattle.x12_hub.specs.Stored.{HubStored}
use Rattle.x12_judge.specs.Agreement.{is_same_party}
use Rattle.x12_station.specs.declared.records.Records.{Ghosts}
use Rattle.x12_station.specs.Opened.{HoldsState}
use Rattle.x12_station.specs.Seen.{StationView}
use Rattle.x12_station.specs.Stored.{Stored}

-- whether records answer, and whether their disk has returned what was written
pub record DiskState : Type 0 where
  pub answers : Bool
  pub clean : Bool

abbrev pub station_disk : {R : Type 0} → StationView R → DiskState
station_disk s = record { answers = s.answers; clean = s.clean }

abbrev pub hub_disk : {H : Type 0} → HubView H → DiskState
hub_disk h = record { answers = h.answers; clean = h.clean }

abbrev pub core_disk : {R H : Type 0} → Core R H → DiskState
core_disk c = record { answers = core_answers c; clean = core_clean c }

-- Records that failed to answer never answer again, and a disk that returned something else than was
-- written is never clean again. Over a clean disk an Ok keeps records that answered answering.
pub record KeepsAnswers {A E : Type 0} (r : Result A E) (old new : DiskState) : Type 0 where
  pub never_won_back : IsTrue new.answers → IsTrue old.answers
  pub was_clean : IsTrue new.clean → IsTrue old.clean
  pub answered : IsTrue new.clean → OnOk r (IsTrue old.answers → IsTrue new.answers)

-- whether a node is asked for a fate of its own set, or for something else
abbrev pub asks_own : Ask → Node → Bool
asks_own (Fate k) (IsStation s) = is_same_party k.sender s.me
asks_own ask n = true

-- a disk holds this node, which is a station, or a hub
abbrev pub HoldsStationNode : Node → Stored → Type 0
HoldsStationNode (IsStation s) d = HoldsState s d
HoldsStationNode (IsHub h) d = ⊥

abbrev pub HoldsHubNode : Node → HubStored → Type 0
HoldsHubNode (IsHub h) d = HoldsHub (Some h) d
HoldsHubNode (IsStation s) d = ⊥

-- something holds the node as this effect leaves it; where there is no effect, nothing does
abbrev pub HoldsEffect : {D : Type 0} → (Node → D → Type 0) → Option Effect → D → Type 0
HoldsEffect holds None d = ⊥
HoldsEffect holds (Some e) d = holds e.node d

-- A stop leaves of a station what it might have left before, or the station as this effect leaves it,
-- whole. Once it said Ok, and while its records answer, a stop leaves the station as it is.
pub record StopsWhole {R A E : Type 0} (g : Ghosts R) (effect : Option Effect) (r : Result A E)
    (old new : StationView R) : Type 0 where
  pub left : IsTrue new.clean → (d : Stored) → g.may_leave new.records d →
      g.may_leave old.records d ⊎ (IsTrue old.answers × HoldsEffect HoldsStationNode effect d)
  pub kept : OnOk r (IsTrue new.answers → (d : Stored) → g.may_leave new.records d →
      HoldsState new.state d)

-- the same of a hub
pub record HubStopsWhole {H A E : Type 0} (g : HubGhosts H) (effect : Option Effect) (r : Result A E)
    (old new : HubView H) : Type 0 where
  pub left : IsTrue new.clean → (d : HubStored) → g.may_leave new.records d →
      g.may_leave old.records d ⊎ (IsTrue old.answers × HoldsEffect HoldsHubNode effect d)
  pub kept : OnOk r (HubIsKept g new)

-- the same of a core, which stays of its kind
abbrev pub CoreStopsWhole : {R H A E : Type 0} → Ghosts R → HubGhosts H → Option Effect → Result A E
    → (old new : Core R H) → Type 0
CoreStopsWhole g k effect r (core.Station old) (core.Station new) = StopsWhole g effect r old new
CoreStopsWhole g k effect r (core.Hub old) (core.Hub new) = HubStopsWhole k effect r old new
CoreStopsWhole g k effect r (core.Station old) (core.Hub new) = ⊥
CoreStopsWhole g k effect r (core.Hub old) (core.Station new) = ⊥
