-- A query leaves the database.
use Rattle.std.proofs.Common.{◌≡◌, inl, inr, ℕ, List, [], Option, Some, None, Ok, Err, Result, IfOk, IfErr, IsSome, sym, subst, ◌∙◌}
use Rattle.sqlite.specs.Order.{Row}
use Rattle.sqlite.specs.declared.error.Error.{Error}
use Rattle.sqlite_resolve.specs.declared.compiled.Compiled.{Compiled}
use Rattle.sqlite.specs.Clock.{timed}
use Rattle.sqlite.specs.Tree.{Trees}
use Rattle.sqlite.specs.State.{State, IsUnchanged, IsRolledBack, Shown, ShowsRows, IsStatement, FailsToQuery, FailsToShow, IsNotRun, Survives, CommitsShowing}
use Rattle.sql_rows.specs.Kept.{Stays}
use Rattle.sql_rows.specs.Query.{IsQuery}

unchanged : (old new : State) → IsUnchanged old new → Stays old new
unchanged old new h = record { was_open = λ _. h.0.was_open; committed = λ _. h.0.committed_is; now = λ _ _. h.0.now_is }

rolled : (old new : State) → IsRolledBack old new → Stays old new
rolled old new h = record { was_open = h.was_open; committed = λ o. (h.undone o).1; now = λ settled o. (h.undone o).0 ∙ sym settled }

-- what the statement is that the text was understood as
pub no_returning : (sql : List ℕ) (s : State) (params : Row) (c : Compiled) → IsQuery sql → IsStatement s sql params c → c.returning ≡ None
no_returning sql s params c asks it = (subst (λ r. IfOk r (λ (c : Compiled). (c.returning ≡ None) × (c.formats ≡ []))) it.is (asks s.now.schema)).0

module _ (sql : List ℕ) (params : Row) (old new : State) (asks : IsQuery sql) where
  shown_stays : (rows : List Row) → Shown sql params old new rows → Stays old new
  unfolding Shown
  shown_stays rows h =
      let none = no_returning sql old params h.0 asks h.1 in
      let it = subst (ShowsRows old new sql h.0 (timed params h.0.formats h.1.now) rows) none h.2 in
      unchanged old new it.3

  fails_stays : (e : Error) → FailsToQuery sql params old new e → Stays old new
  unfolding FailsToQuery IsNotRun
  fails_stays e (inl (inl h)) = unchanged old new h.1
  fails_stays e (inl (inr h)) = rolled old new h.3
  fails_stays e (inr h) =
      let none = no_returning sql old params h.0 asks h.1 in
      let it = subst (FailsToShow old new sql h.0 (timed params h.0.formats h.1.now) e) none h.2 in
      unchanged old new it.3

  pub stays : {A : Type 0} (shows : A → List Row) (r : Result A Error) → IfOk r (λ a. Shown sql params old new (shows a)) → IfErr r (FailsToQuery sql params old new) → Stays old new
  stays shows (Ok a) ok err = shown_stays (shows a) ok
  stays shows (Err e) ok err = fails_stays e err

none_or_some : {X : Type 0} (o : Option X) → o ≡ None → IsSome o → ⊥
none_or_some None same some = absurd (cc)
none_or_some (Some x) same some = absurd (cc)

-- no write with RETURNING commits
pub never_commits : (sql : List ℕ) (params : Row) (s : State) (db : Trees) → IsQuery sql → ¬ CommitsShowing sql params s db
unfolding CommitsShowing
never_commits sql params s db asks h = none_or_some h.0.returning (no_returning sql s params h.0 asks h.1) h.2

pub never : (sql : List ℕ) (params : Row) (old new : State) → IsQuery sql → Survives old new (CommitsShowing sql params old) → Survives old new (λ _. ⊥)
never sql params old new asks s = record {
  clean = s.clean;
  shield = s.shield;
  counts = s.counts;
  limit = s.limit;
  closes = s.closes;
  crash = λ clean db may. elim (s.crash clean db may) [ inl left ↦ inl left | inr commits ↦ absurd (never_commits sql params old db asks commits) ];
}
