-- What a stop leaves of a hub, by what it leaves of its records.
use Rattle.std.specs.Prelude.{◌≡◌, IsTrue, Option, Result}
use mathlib.Core.Logic.{inl, inr}
use mathlib.Core.Path.{ap, subst, sym}
use Rattle.x12_envelopes.specs.declared.party.Party.{Party}
use Rattle.x12_profile.specs.Stop.{OnlyAsks}
use Rattle.x12_hub.specs.declared.records.HubRecords.{Ghosts}
use Rattle.x12_hub.specs.Hub.{Hub}
use Rattle.x12_hub.specs.HubView.{HubView, HubMemory}
use Rattle.x12_hub.specs.Plan.{HubCommit, hub_stored_after}
use Rattle.x12_hub.specs.Standing.{HubLeavesNoMore, HubWereUsed}
use Rattle.x12_hub.specs.Stopped.{HoldsHub, HubLeavesWhole}
use Rattle.x12_hub.specs.Stored.{HubStored, hub_of}

-- a hub as it is seen
abbrev pub hub_seen : {H : Type 0} → Ghosts H → Party → HubMemory → H → HubView H
hub_seen g me m a = record {
  records = a;
  hub = hub_of me (g.content a);
  answers = g.answers a;
  clean = g.clean a;
  failures = g.failed a;
  memory = m;
}

module _ {H : Type 0} (g : Ghosts H) (after : Option Hub) (me : Party) where
  -- over records that weren't touched, or were asked
  pub hub_untouched : {m n : HubMemory} {a : H} → ((d : HubStored) → IsTrue (g.answers a) → g.may_leave a d → d ≡ g.content a) → HubLeavesWhole g after (hub_seen g me m a) (hub_seen g me n a)
  hub_untouched law = record { left = λ _ _ may. inl may; kept = λ answers d may. ap (hub_of me) (law d answers may) }

  pub hub_asked : {m n : HubMemory} {a b : H} → ((d : HubStored) → IsTrue (g.answers b) → g.may_leave b d → d ≡ g.content b) → HubLeavesNoMore g a b → HubLeavesWhole g after (hub_seen g me m a) (hub_seen g me n b)
  hub_asked law leaves = record { left = λ clean d may. inl (leaves.left clean d may); kept = λ answers d may. ap (hub_of me) (law d answers may) }

  -- and over those to which a plan was written, with which they hold the hub then
  pub hub_written : {A E : Type 0} (plan : HubCommit) {r : Result A E} {m n : HubMemory} {a b : H} → ((d : HubStored) → IsTrue (g.answers b) → g.may_leave b d → d ≡ g.content b) → HubWereUsed g plan r a b
      → (IsTrue (g.answers a) → HoldsHub after (hub_stored_after plan (g.content a))) → HubLeavesWhole g after (hub_seen g me m a) (hub_seen g me n b)
  hub_written plan law used holds = record {
    left = λ clean d may. elim (used.left clean d may) [
      | inl old ↦ inl old
      | inr done ↦ inr (done.0, subst (HoldsHub after) (sym done.1) (holds done.0))
    ];
    kept = λ answers d may. ap (hub_of me) (law d answers may);
  }

  -- records that were asked first
  pub hub_then : (mid : Option Hub) {m n : HubMemory} {a b : H} {new : HubView H} → HubLeavesNoMore g a b → (IsTrue (g.answers b) → IsTrue (g.answers a)) → (IsTrue new.clean → IsTrue (g.clean b))
      → HubLeavesWhole g mid (hub_seen g me n b) new → (IsTrue (g.answers b) → mid ≡ after) → HubLeavesWhole g after (hub_seen g me m a) new
  hub_then mid asked won clean_before next same = record {
    left = λ clean d may. elim (next.left clean d may) [
      | inl old ↦ inl (asked.left (clean_before clean) d old)
      | inr done ↦ inr (won done.0, subst (λ h. HoldsHub h d) (same done.0) done.1)
    ];
    kept = next.kept;
  }

pub hub_only_asked : {H A E : Type 0} (g : Ghosts H) {r : Result A E} {a b : H} → OnlyAsks r (g.clean a) (g.clean b) (g.answers b) (g.may_leave a) (g.may_leave b) → HubLeavesNoMore g a b
hub_only_asked g asks = record { was_clean = asks.was_clean; left = asks.left }

-- the same step, while the records answer
pub hub_step_is : {H : Type 0} (g : Ghosts H) {x y : Option Hub} {old new : HubView H} → (IsTrue old.answers → y ≡ x) → HubLeavesWhole g y old new → HubLeavesWhole g x old new
hub_step_is g is leaves = record {
  left = λ clean d may. elim (leaves.left clean d may) [
    | inl old ↦ inl old
    | inr done ↦ inr (done.0, subst (λ h. HoldsHub h d) (is done.0) done.1)
  ];
  kept = leaves.kept;
}
