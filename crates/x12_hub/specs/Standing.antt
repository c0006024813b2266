-- What a call leaves of a hub's records, and of what a stop leaves of them.
use Rattle.std.specs.Prelude.{◌≡◌, ◌⊎◌, IsTrue, Result, OnOk}
use Rattle.x12_envelopes.specs.declared.party.Party.{Party}
use Rattle.x12_hub.specs.declared.records.HubRecords.{Ghosts}
use Rattle.x12_hub.specs.Plan.{HubCommit, hub_stored_after}
use Rattle.x12_hub.specs.Stored.{HubStored, IsHubOf}

-- whatever a stop leaves of these records fits together, and is the hub's of this party
abbrev pub LeavesHub : {H : Type 0} → Ghosts H → Party → H → Type 0
LeavesHub g party records =
    IsTrue (g.clean records) → (d : HubStored) → g.may_leave records d → IsHubOf party d

-- a stop leaves what it might have left before
pub record HubLeavesNoMore {H : Type 0} (g : Ghosts H) (old new : H) : Type 0 where
  pub was_clean : IsTrue (g.clean new) → IsTrue (g.clean old)
  pub left : IsTrue (g.clean new) → (d : HubStored) → g.may_leave new d → g.may_leave old d

-- records that were asked: they hold what they held, and answered if they do; and a stop leaves no
-- more than before
pub record HubWereAsked {H : Type 0} (g : Ghosts H) (old new : H) : Type 0 where
  pub valid : g.valid new
  pub never_won_back : IsTrue (g.answers new) → IsTrue (g.answers old)
  pub same : IsTrue (g.answers new) → g.content new ≡ g.content old
  pub leaves : HubLeavesNoMore g old new

-- Records to which a plan was written, or should have been: they are valid, and whose they were. Over a clean disk an Ok
-- comes of records that answer, and a stop leaves what it might have left before, or that with the
-- plan committed, which is a hub's as what was left.
pub record HubWereUsed {H A E : Type 0} (g : Ghosts H) (plan : HubCommit) (r : Result A E)
    (old new : H) : Type 0 where
  pub valid : g.valid new
  pub was_clean : IsTrue (g.clean new) → IsTrue (g.clean old)
  pub answered : IsTrue (g.clean new) → OnOk r (IsTrue (g.answers new))
  pub left : IsTrue (g.clean new) → (d : HubStored) → g.may_leave new d →
      g.may_leave old d ⊎ (IsTrue (g.answers old) × (d ≡ hub_stored_after plan (g.content old)))
  pub party : IsTrue (g.answers new) → (g.content new).party ≡ (g.content old).party
  pub hub : (party : Party) → (IsTrue (g.answers old) → (g.content old).party ≡ party) →
      LeavesHub g party old → LeavesHub g party new
