-- Calls that only read, one behind the other.
use Rattle.std.proofs.Common.{◌∙◌, ℕ, List, sym, subst, arith, Result, Ok, Err, IfOk, OnOk}
use Rattle.sqlite.specs.Effect.{Database}
use Rattle.sqlite.specs.Clock.{timed}
use Rattle.sqlite.specs.Order.{Row}
use Rattle.sqlite.specs.State.{State, HasCleanDisk, IsUnchanged, Shown, ShowsRows}
use Rattle.sqlite.proofs.Callers.{unchanged_then}
use Rattle.sqlite.proofs.StateLemmas.{survives_then}
use Rattle.sql_rows.specs.Kept.{Stays}
use Rattle.sql_rows.specs.Query.{IsQuery}
use Rattle.sql_rows.proofs.Asks.{no_returning}
use Rattle.x12_tables.specs.Adopt.{Finds}

-- a query leaves what is seen
pub shown_unchanged : (sql : List ℕ) (params : Row) (old new : State) (rows : List Row) → IsQuery sql → Shown sql params old new rows → IsUnchanged old new
unfolding Shown
shown_unchanged sql params old new rows asks h =
    let none = no_returning sql old params h.0 asks h.1 in
    (subst (ShowsRows old new sql h.0 (timed params h.0.formats h.1.now) rows) none h.2).3

pub where_done : {A E : Type 0} (r : Result A E) (P Q : Type 0) → (P → Q) → OnOk r P → IfOk r (λ x. Q)
where_done (Ok x) P Q step h = step h
where_done (Err e) P Q step h = tt

pub where_shown : {A E : Type 0} (r : Result A E) (P : A → Type 0) (Q : Type 0) → ((x : A) → P x → Q) → IfOk r P → OnOk r Q
where_shown (Ok x) P Q step h = step x h
where_shown (Err e) P Q step h = tt

-- what was found is tested, or turned into something else
pub finds_tested : {A B E F : Type 0} (C : Database → A → Type 0) (D : Database → B → Type 0) (x : A) (r : Result B F) (old new : State)
    → Finds {E = E} C (Ok x) old new → (HasCleanDisk new → IfOk r (D old.now)) → Finds D r old new
finds_tested C D x (Ok y) old new h told = record { found = λ clean. (told clean, (h.found clean).1); stays = h.stays; mode = h.mode; survives = h.survives }
finds_tested C D x (Err e) old new h told = record { found = λ clean. tt; stays = h.stays; mode = h.mode; survives = h.survives }

pub stays_then : (a b c : State) → Stays a b → Stays b c → Stays a c
stays_then a b c h k = record {
  was_open = λ o. h.was_open (k.was_open o);
  committed = λ o. k.committed o ∙ h.committed (k.was_open o);
  now = λ settled o. let first = h.now settled (k.was_open o) in k.now (first ∙ settled ∙ sym (h.committed (k.was_open o))) o ∙ first;
}

-- one call, and then another
pub finds_then : {A B E F : Type 0} (C : Database → A → Type 0) (D G : Database → B → Type 0) (x : A) (r : Result B F) (a b c : State)
    → ((y : B) → C a.now x → D a.now y → G a.now y) → Finds {E = E} C (Ok x) a b → Finds D r b c → Finds G r a c
finds_then {A} {B} {E} {F} C D G x r a b c join first second =
    let mid : HasCleanDisk c → HasCleanDisk b = λ clean. omega (arith, second.survives.clean, clean) in
    record {
      found = λ clean. joined r (mid clean) (second.found clean);
      stays = λ clean. stays_then a b c (first.stays (mid clean)) (second.stays clean);
      mode = λ m. second.mode (first.mode m);
      survives = survives_then a b c _ _ (λ _. ⊥) (λ _ db none. none) (λ _ db none. none) first.survives second.survives;
    }
  where
    joined : (r : Result B F) → HasCleanDisk b → IfOk r (λ y. D b.now y × IsUnchanged b c) → IfOk r (λ y. G a.now y × IsUnchanged a c)
    joined (Ok y) clean two =
        let one = first.found clean in
        (join y one.0 (subst (λ d. D d y) one.1.0.now_is two.0), unchanged_then a b c one.1 two.1)
    joined (Err e) clean two = tt

-- two facts of one answer
pub two_found : {A E : Type 0} (r : Result A E) (P : A → Type 0) (Q : Type 0) → IfOk r P → OnOk r Q → IfOk r (λ x. P x × Q)
two_found (Ok x) P Q h k = (h, k)
two_found (Err e) P Q h k = tt

pub both_found : {A E : Type 0} (r : Result A E) (P Q : A → Type 0) → IfOk r P → IfOk r Q → IfOk r (λ x. P x × Q x)
both_found (Ok x) P Q h k = (h, k)
both_found (Err e) P Q h k = tt
