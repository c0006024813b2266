-- What a transaction that follows a plan, or fails, makes of what the tables stand for.
use Rattle.std.proofs.Common.{◌≡◌, ◌<◌, ◌⊎◌, ◌∙◌, ℕ, false, inl, inr, sym, ap, subst, Result, Ok, Err, IsTrue}
use Rattle.sqlite.specs.Effect.{Database}
use Rattle.sqlite.specs.State.{State, HasCleanDisk}
use Rattle.sql_rows.specs.Kept.{IsWhole}
use Rattle.x12_hub.specs.Plan.{HubCommit, hub_stored_after}
use Rattle.x12_hub.specs.Stored.{HubStored, IsSoundHub}
use Rattle.x12_hub_records.proofs.ContentLemmas.{content_is}
use Rattle.x12_hub_records.specs.HubChange.{last_after, FollowsHubCommit}
use Rattle.x12_hub_records.specs.HubContent.{IsValidHub, MayHoldHub, hub_content_of}
use Rattle.x12_hub_records.specs.HubTables.{HasHubTables}

module _ (last at : ℕ) (plan : HubCommit) (old new : State) (valid : IsValidHub last old) (fits : IsTrue old.is_open → IsSoundHub (hub_stored_after plan (hub_content_of old.now.trees)))
    (above : last < at) (law : IsTrue new.is_open → HasCleanDisk new) where
  -- where the plan was followed, the tables stand for the records after it
  after : (open1 : IsTrue old.is_open) (db : Database) → FollowsHubCommit at plan old.now db → HasHubTables (last_after plan.change at last) db (hub_stored_after plan (hub_content_of old.now.trees))
  after open1 db follows = follows last (hub_content_of old.now.trees) above (fits open1) (valid.holds open1)

  after_is : (open1 : IsTrue old.is_open) (db : Database) → FollowsHubCommit at plan old.now db → hub_content_of db.trees ≡ hub_stored_after plan (hub_content_of old.now.trees)
  after_is open1 db follows = content_is (last_after plan.change at last) db (hub_stored_after plan (hub_content_of old.now.trees)) (after open1 db follows) (fits open1).numbered

  module _ {A E : Type 0} where
    pub still : (r : Result A E) → IsWhole (FollowsHubCommit at plan) r old new → IsTrue new.is_open → IsTrue old.is_open
    still (Ok x) w o = (w.done (law o)).was_open
    still (Err e) w o = (w.kept (law o)).was_open o

    pub content_done : (x : A) → IsWhole {E = E} (FollowsHubCommit at plan) (Ok x) old new → IsTrue new.is_open → hub_content_of new.now.trees ≡ hub_stored_after plan (hub_content_of old.now.trees)
    content_done x w o = let c = w.done (law o) in after_is c.was_open new.now c.change

    pub content_kept : (e : E) → IsWhole {A = A} (FollowsHubCommit at plan) (Err e) old new → IsTrue new.is_open → hub_content_of new.now.trees ≡ hub_content_of old.now.trees
    content_kept e w o = let k = w.kept (law o) in ap (λ (d : Database). hub_content_of d.trees) (k.now (valid.settled (k.was_open o)) o)

    pub valid_done : (x : A) → new.in_transaction ≡ false → IsWhole {E = E} (FollowsHubCommit at plan) (Ok x) old new → IsValidHub (last_after plan.change at last) new
    valid_done x outside w = record {
      outside = outside;
      settled = λ o. (w.done (law o)).settled;
      holds = λ o. let c = w.done (law o) in subst (HasHubTables (last_after plan.change at last) new.now) (sym (after_is c.was_open new.now c.change)) (after c.was_open new.now c.change);
      sound = λ o. let c = w.done (law o) in subst IsSoundHub (sym (after_is c.was_open new.now c.change)) (fits c.was_open);
    }

    pub valid_kept : (e : E) → new.in_transaction ≡ false → IsWhole {A = A} (FollowsHubCommit at plan) (Err e) old new → IsValidHub last new
    valid_kept e outside w =
        let same : IsTrue new.is_open → new.now ≡ old.now = λ o. let k = w.kept (law o) in k.now (valid.settled (k.was_open o)) o in
        let opened : IsTrue new.is_open → IsTrue old.is_open = λ o. (w.kept (law o)).was_open o in
        record {
          outside = outside;
          settled = λ o. same o ∙ valid.settled (opened o) ∙ sym ((w.kept (law o)).committed o);
          holds = λ o. subst (λ (d : Database). HasHubTables last d (hub_content_of d.trees)) (sym (same o)) (valid.holds (opened o));
          sound = λ o. subst (λ (d : Database). IsSoundHub (hub_content_of d.trees)) (sym (same o)) (valid.sound (opened o));
        }

    pub crash_leaves : (r : Result A E) → IsWhole (FollowsHubCommit at plan) r old new → HasCleanDisk new → (d : HubStored) → MayHoldHub new d
        → MayHoldHub old d ⊎ (IsTrue old.is_open × (d ≡ hub_stored_after plan (hub_content_of old.now.trees)))
    crash_leaves r w clean d left = elim (w.crash.crash clean left.0 left.1) [
      | inl before ↦ inl (left.0, before, left.2)
      | inr becomes ↦ inr (becomes.0, left.2 ∙ ap hub_content_of becomes.1.2 ∙ after_is becomes.0 becomes.1.0 becomes.1.1)
    ]
