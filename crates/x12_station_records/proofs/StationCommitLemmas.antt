-- What a transaction that follows a plan, or fails, makes of what a station's tables stand for.
use Rattle.std.proofs.Common.{◌≡◌, ◌⊎◌, ◌∙◌, false, inl, inr, sym, ap, subst, Result, Ok, Err, IsTrue}
use Rattle.sqlite.specs.Effect.{Database}
use Rattle.sqlite.specs.State.{State, HasCleanDisk}
use Rattle.x12_station.specs.Plan.{Commit, stored_after}
use Rattle.x12_station.specs.Stored.{Stored, IsSound}
use Rattle.x12_station_records.proofs.StationContentLemmas.{content_is}
use Rattle.x12_station_records.proofs.StationMarkLemmas.{marks_stay}
use Rattle.x12_station_records.proofs.StationOneLemmas.{fits}
use Rattle.x12_station_records.specs.StationContent.{MayHold, content_of, IsValid}
use Rattle.x12_station_records.specs.StationNumbers.{AreMarked, numbers_kept_of}
use Rattle.x12_station_records.specs.StationPlan.{FollowsCommit, IsWholeWith, HoldsRows}
use Rattle.x12_station_records.specs.declared.station_committing.NextRows.{NextRows}

module _ (from : NextRows) (plan : Commit) (old new : State) (valid : IsValid from old) (sound : IsTrue old.is_open → IsSound (stored_after plan (content_of old.now.trees)))
    (law : IsTrue new.is_open → HasCleanDisk new) where
  -- where the plan was followed, the tables stand for the records after it
  after : (to : NextRows) (open1 : IsTrue old.is_open) (db : Database) → FollowsCommit plan from to old.now db → HoldsRows to db (stored_after plan (content_of old.now.trees))
  after to open1 db follows = follows (content_of old.now.trees) (fits plan (content_of old.now.trees) (valid.sound open1) (sound open1)) (valid.holds open1)

  after_is : (to : NextRows) (open1 : IsTrue old.is_open) (db : Database) → FollowsCommit plan from to old.now db → content_of db.trees ≡ stored_after plan (content_of old.now.trees)
  after_is to open1 db follows = content_is to.agreement db (stored_after plan (content_of old.now.trees)) (after to open1 db follows).has (sound open1)

  module _ {E : Type 0} where
    pub still : (r : Result NextRows E) → IsWholeWith (FollowsCommit plan from) r old new → IsTrue new.is_open → IsTrue old.is_open
    still (Ok to) w o = (w.done (law o)).was_open
    still (Err e) w o = (w.kept (law o)).was_open o

    pub content_done : (to : NextRows) → IsWholeWith {E = E} (FollowsCommit plan from) (Ok to) old new → IsTrue new.is_open → content_of new.now.trees ≡ stored_after plan (content_of old.now.trees)
    content_done to w o = let c = w.done (law o) in after_is to c.was_open new.now c.change

    pub content_kept : (e : E) → IsWholeWith (FollowsCommit plan from) (Err e) old new → IsTrue new.is_open → content_of new.now.trees ≡ content_of old.now.trees
    content_kept e w o = let k = w.kept (law o) in ap (λ (d : Database). content_of d.trees) (k.now (valid.settled (k.was_open o)) o)

    pub valid_done : (to : NextRows) → new.in_transaction ≡ false → IsWholeWith {E = E} (FollowsCommit plan from) (Ok to) old new → IsValid to new
    valid_done to outside w = record {
      outside = outside;
      settled = λ o. (w.done (law o)).settled;
      holds = λ o. let c = w.done (law o) in subst (HoldsRows to new.now) (sym (after_is to c.was_open new.now c.change)) (after to c.was_open new.now c.change);
      marked = λ o. let c = w.done (law o) in subst (λ (s : Stored). AreMarked (numbers_kept_of s)) (sym (after_is to c.was_open new.now c.change)) (marks_stay plan (content_of old.now.trees) (valid.sound c.was_open) (sound c.was_open) (valid.marked c.was_open));
      sound = λ o. let c = w.done (law o) in subst IsSound (sym (after_is to c.was_open new.now c.change)) (sound c.was_open);
    }

    pub valid_kept : (e : E) → new.in_transaction ≡ false → IsWholeWith (FollowsCommit plan from) (Err e) old new → IsValid from new
    valid_kept e outside w =
        let same : IsTrue new.is_open → new.now ≡ old.now = λ o. let k = w.kept (law o) in k.now (valid.settled (k.was_open o)) o in
        let opened : IsTrue new.is_open → IsTrue old.is_open = λ o. (w.kept (law o)).was_open o in
        record {
          outside = outside;
          settled = λ o. same o ∙ valid.settled (opened o) ∙ sym ((w.kept (law o)).committed o);
          holds = λ o. subst (λ (d : Database). HoldsRows from d (content_of d.trees)) (sym (same o)) (valid.holds (opened o));
          marked = λ o. subst (λ (d : Database). AreMarked (numbers_kept_of (content_of d.trees))) (sym (same o)) (valid.marked (opened o));
          sound = λ o. subst (λ (d : Database). IsSound (content_of d.trees)) (sym (same o)) (valid.sound (opened o));
        }

    pub crash_leaves : (r : Result NextRows E) → IsWholeWith (FollowsCommit plan from) r old new → HasCleanDisk new → (d : Stored) → MayHold new d
        → MayHold old d ⊎ (IsTrue old.is_open × (d ≡ stored_after plan (content_of old.now.trees)))
    crash_leaves r w clean d left = elim (w.crash.crash clean left.0 left.1) [
      | inl before ↦ inl (left.0, before, left.2)
      | inr becomes ↦ inr (becomes.0, left.2 ∙ ap content_of becomes.1.2 ∙ after_is becomes.1.1.0 becomes.0 becomes.1.0 becomes.1.1.1)
    ]
