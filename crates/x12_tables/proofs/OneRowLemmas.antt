-- A table of one row, of which all columns are read.
use Rattle.std.proofs.Common.{◌≡◌, ◌∙◌, ℕ, List, [], ◌∷◌, map, true, false, refl, ap, subst, arith, IsPermutation}
use Rattle.std.specs.List.{AllByRecursion}
use Rattle.sqlite.specs.declared.types.Value.TheVariants.{Null}
use Rattle.sqlite.specs.Command.TheVariants.{Select}
use Rattle.sqlite.specs.Listing.{understood, reads_listing}
use Rattle.sqlite.specs.Order.{Row}
use Rattle.sqlite.specs.Program.{overlay}
use Rattle.sqlite.specs.Query.{Output, IsAnswer, output}
use Rattle.sqlite.specs.Schema.{Schema}
use Rattle.sqlite.specs.State.{State, Shown}
use Rattle.sqlite.specs.Term.{Term}
use Rattle.sqlite.proofs.Callers.{IsPlain, command_of, reads_as}
use Rattle.sql_rows.specs.Keyed.{with_id, AreRows}
use Rattle.sql_rows.proofs.Selects.{one_table, answers, few}
use Rattle.x12_tables.proofs.KeyLemmas.{seconds}
use Rattle.x12_tables.specs.OneRow.{AreColumns, IsOneRow, whole}

module _ {X : Type 0} (enc : X → Row) (m : X) where
  -- one row that shows these columns is the value's
  pub one_holds : (show : Row → Row) (P : Row → Type 0) → ((r : Row) → P r → AreColumns (show r) 0 (whole (with_id enc (1, m))) → r ≡ with_id enc (1, m))
      → (tree all : List Row) → AllByRecursion P all → IsPermutation tree all → IsOneRow (whole (with_id enc (1, m))) (map show all) → AreRows enc ((1, m) ∷ []) tree
  one_holds show P is tree [] stored moved are = absurd are
  one_holds show P is tree (r ∷ []) stored moved are = record { same = subst (IsPermutation tree) (ap (λ x. x ∷ []) (is r stored.0 are)) moved; rise = (omega arith, tt) }
  one_holds show P is tree (r ∷ s ∷ all) stored moved are = absurd are

module _ (sql : List ℕ) (old new : State) (schema : Schema) (has : old.now.schema ≡ schema) (tree : ℕ) (shows : List Term) (names : List (List ℕ))
    (is : (command_of (understood schema sql) ≡ Select (record { lets = []; body = one_table tree [] shows [] }) names) × (reads_listing schema sql ≡ false) × IsPlain (understood schema sql)) where
  -- a query on all columns shows the one row
  pub shows_one : {X : Type 0} (enc : X → Row) (m : X) → AreRows enc ((1, m) ∷ []) (overlay old.now.trees [] tree)
      → ((x : ℕ × X) → output (one_table tree [] shows []) ([] ∷ with_id enc x ∷ []) ≡ ([], whole (with_id enc x)))
      → (rows : List Row) → Shown sql [] old new rows → rows ≡ whole (with_id enc (1, m)) ∷ []
  shows_one {X = X} enc m are outs rows h =
      let read = reads_as sql [] old new schema has (Select (record { lets = []; body = one_table tree [] shows [] }) names) is.0 is.2 is.1 rows h in
      let a : IsAnswer (one_table tree [] shows []) (overlay old.now.trees []) [] rows = read.answer Null in
      let show : ℕ × X → Row = λ x. whole (with_id enc x) in
      let out : ℕ × X → Output = λ x. ([], show x) in
      let one : List (ℕ × X) = (1, m) ∷ [] in
      let got = answers [] tree [] shows [] (with_id enc) (λ x. true) out (λ x. refl) outs (overlay old.now.trees []) one rows are.same a in
      got.3 ∙ ap (map (λ (o : Output). o.1)) (few (map out one) got.0 (omega arith) got.1) ∙ seconds show one
