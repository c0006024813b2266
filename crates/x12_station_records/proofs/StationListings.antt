-- What a query answers that lists rows of a table in the order of their keys.
use Rattle.std.proofs.Common.{◌≡◌, ◌≤◌, ℕ, pos, List, [], ◌∷◌, map, filter, Bool, true, false, refl, ap, arith, ◌∙◌, inl, inr}
use Rattle.std.specs.List.{AllByRecursion, list_all}
use Rattle.std.proofs.lemmas.Bool.{cases_Bool}
use Rattle.sqlite.specs.Collation.TheVariants.{Binary}
use Rattle.sqlite.specs.Command.TheVariants.{Select}
use Rattle.sqlite.specs.Listing.{understood, reads_listing}
use Rattle.sqlite.specs.declared.types.Value.TheVariants.{Null, Int}
use Rattle.sqlite.specs.Order.{Row}
use Rattle.sqlite.specs.Program.{overlay}
use Rattle.sqlite.specs.Query.{Output, IsAnswer, output}
use Rattle.sqlite.specs.State.{State, Shown}
use Rattle.sqlite.specs.Term.{Term, col, holds}
use Rattle.sqlite.proofs.Callers.{IsPlain, command_of, reads_as}
use Rattle.sqlite_value.specs.declared.keys.Key.{Key}
use Rattle.sql_rows.specs.Keyed.{with_id, RisesFrom, AreRows}
use Rattle.sql_rows.proofs.Selects.{one_table, answers}
use Rattle.sql_rows.proofs.Sorted.{HasKey, key_of, Rises, ordered_is}
use Rattle.x12_tables.proofs.AllRows.{all_pass}
use Rattle.x12_station_records.specs.StationSchema.{station_schema}

abbrev pub by_at : List (Term × Key)
by_at = (col 1 0, record { collation = Binary; descending = false }) ∷ []

module _ {X : Type 0} (shown : ℕ × X → Row) where
  abbrev keyed_out : ℕ × X → Output
  keyed_out x = (Int (pos x.0) ∷ [], shown x)

  keyed : (ys : List (ℕ × X)) → AllByRecursion HasKey (map keyed_out ys)
  keyed [] = tt
  keyed (y ∷ ys) = (refl, keyed ys)

  rises : (n : ℕ) (ys : List (ℕ × X)) → RisesFrom n ys → Rises key_of n (map keyed_out ys)
  rises n [] h = tt
  rises n (y ∷ ys) h = (h.0, rises y.0 ys h.1)

  seconds : (ys : List (ℕ × X)) → map (λ (o : Output). o.1) (map keyed_out ys) ≡ map shown ys
  seconds [] = refl
  seconds (y ∷ ys) = ap (λ more. shown y ∷ more) (seconds ys)

lower : {X : Type 0} (m n : ℕ) (ys : List (ℕ × X)) → m ≤ n → RisesFrom n ys → RisesFrom m ys
lower m n [] low h = tt
lower m n (y ∷ ys) low h = (omega (arith, low, h.0), h.1)

-- what passes a test rises as before
passing_rise : {X : Type 0} (p : ℕ × X → Bool) (n : ℕ) (ys : List (ℕ × X)) → RisesFrom n ys → RisesFrom n (filter p ys)
passing_rise p n [] h = tt
passing_rise p n (y ∷ ys) h = elim (cases_Bool (p y)) [
  | inl yes1 ↦ rw yes1 (h.0, passing_rise p y.0 ys h.1)
  | inr no1 ↦ rw no1 (lower n y.0 (filter p ys) (omega (arith, h.0)) (passing_rise p y.0 ys h.1))
]

module _ (sql : List ℕ) (params : Row) (old new : State) (has : old.now.schema ≡ station_schema) (tree : ℕ) (wheres shows : List Term) (names : List (List ℕ))
    (is : (command_of (understood station_schema sql) ≡ Select (record { lets = []; body = one_table tree wheres shows by_at }) names) × (reads_listing station_schema sql ≡ false) × IsPlain (understood station_schema sql)) where
  -- the rows that a test passes, by their keys
  pub lists_some : {X : Type 0} (enc : X → Row) (at : List (ℕ × X)) → AreRows enc at (overlay old.now.trees [] tree) → (p : ℕ × X → Bool) (shown : ℕ × X → Row)
      → ((x : ℕ × X) → list_all (holds (params ∷ with_id enc x ∷ [])) wheres ≡ p x) → ((x : ℕ × X) → output (one_table tree wheres shows by_at) (params ∷ with_id enc x ∷ []) ≡ (Int (pos x.0) ∷ [], shown x))
      → (rows : List Row) → Shown sql params old new rows → rows ≡ map shown (filter p at)
  lists_some {X = X} enc at are p shown tests outs rows h =
      let q = one_table tree wheres shows by_at in
      let read = reads_as sql params old new station_schema has (Select (record { lets = []; body = q }) names) is.0 is.2 is.1 rows h in
      let a : IsAnswer q (overlay old.now.trees []) params rows = read.answer Null in
      let got = answers params tree wheres shows by_at (with_id enc) p (keyed_out shown) tests outs (overlay old.now.trees []) at rows are.same a in
      let ys = filter p at in
      let exact : got.0 ≡ map (keyed_out shown) ys = ordered_is q refl (map (keyed_out shown) ys) got.0 (keyed shown ys) (rises shown 0 ys (passing_rise p 0 at are.rise)) got.1 got.2 in
      got.3 ∙ ap (map (λ (o : Output). o.1)) exact ∙ seconds shown ys

module _ (sql : List ℕ) (old new : State) (has : old.now.schema ≡ station_schema) (tree : ℕ) (shows : List Term) (names : List (List ℕ))
    (is : (command_of (understood station_schema sql) ≡ Select (record { lets = []; body = one_table tree [] shows by_at }) names) × (reads_listing station_schema sql ≡ false) × IsPlain (understood station_schema sql)) where
  -- all rows, by their keys
  pub lists_all : {X : Type 0} (enc : X → Row) (at : List (ℕ × X)) → AreRows enc at (overlay old.now.trees [] tree) → (shown : ℕ × X → Row)
      → ((x : ℕ × X) → output (one_table tree [] shows by_at) ([] ∷ with_id enc x ∷ []) ≡ (Int (pos x.0) ∷ [], shown x))
      → (rows : List Row) → Shown sql [] old new rows → rows ≡ map shown at
  lists_all {X = X} enc at are shown outs rows h =
      lists_some sql [] old new has tree [] shows names is enc at are (λ (x : ℕ × X). true) shown (λ x. refl) outs rows h ∙ ap (map shown) (all_pass at)
