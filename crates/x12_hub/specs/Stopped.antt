-- What a stop leaves of a hub, in a call or after it: what it might have left before, or the hub after
-- the call's one step, whole.
use Rattle.std.specs.Prelude.{◌≡◌, ◌⊎◌, IsTrue, Option, None, Some}
use Rattle.x12_hub.specs.declared.records.HubRecords.{Ghosts}
use Rattle.x12_hub.specs.Hub.{Hub}
use Rattle.x12_hub.specs.HubView.{HubView}
use Rattle.x12_hub.specs.Stored.{HubStored, hub_of}

-- records of this hub; where there is none, there are none
abbrev pub HoldsHub : Option Hub → HubStored → Type 0
HoldsHub None d = ⊥
HoldsHub (Some hub) d = hub_of hub.me d ≡ hub

-- while its records answer, a stop leaves a hub as it is
abbrev pub HubIsKept : {H : Type 0} → Ghosts H → HubView H → Type 0
HubIsKept g hub =
    IsTrue hub.answers → (d : HubStored) → g.may_leave hub.records d → HoldsHub (Some hub.hub) d

-- A stop leaves what it might have left before the call, or this hub, whole; and while the records
-- answer, the hub as it is.
pub record HubLeavesWhole {H : Type 0} (g : Ghosts H) (after : Option Hub) (old new : HubView H)
    : Type 0 where
  pub left : IsTrue new.clean → (d : HubStored) → g.may_leave new.records d →
      g.may_leave old.records d ⊎ (IsTrue old.answers × HoldsHub after d)
  pub kept : HubIsKept g new

-- the same of a call that writes nothing: a stop leaves no more than before
abbrev pub HubLeavesAsBefore : {H : Type 0} → Ghosts H → HubView H → HubView H → Type 0
HubLeavesAsBefore g old new = HubLeavesWhole g None old new
