-- An INSERT of one row with its key, where of the rows that stand nothing is known but which they are.
use Rattle.std.proofs.Common.{◌≡◌, ◌/◌, ℕ, List, [], ◌∷◌, length, map, true, false, Some, Ok, slice_get, sym, ap, subst, ◌∙◌, IsPermutation}
use Rattle.std.proofs.lemmas.List.Sorted.{IsPermutation-map, IsPermutation-trans}
use Rattle.sqlite.specs.Order.{Row}
use Rattle.sqlite.specs.Tree.{put_row}
use Rattle.sqlite.specs.Table.{Table}
use Rattle.sqlite.specs.Schema.{Schema}
use Rattle.sqlite.specs.Term.{Term}
use Rattle.sqlite.specs.Cast.{cast_row}
use Rattle.sqlite.specs.Command.TheVariants.{Insert}
use Rattle.sqlite.specs.Source.TheVariants.{Values}
use Rattle.sqlite.specs.Effect.{value_rows}
use Rattle.sqlite.specs.Rows.{stamped}
use Rattle.sqlite.specs.Edit.{edit_of, are_fresh, is_taken, put_all, with_rowid, Edit}
use Rattle.sqlite.specs.Rowids.TheVariants.{Chosen}
use Rattle.sqlite.specs.State.{State, Executes}
use Rattle.sqlite.specs.Listing.{understood}
use Rattle.sqlite.proofs.Callers.{IsPlain, command_of}
use Rattle.sqlite_rules.specs.Action.{works}
use Rattle.sqlite_schema.specs.declared.schema.Keys.TheVariants.{Enforced}
use Rattle.sql_rows.specs.Keyed.{with_id}
use Rattle.sql_rows.proofs.Steps.{inserts}
use Rattle.sql_rows.proofs.Inserts.{added}
use Rattle.sql_rows.proofs.Statements.{OnlyTable, not_taken}

module _ (sql : List ℕ) (params : Row) (old new : State) (schema : Schema) (has : old.now.schema ≡ schema) (place : ℕ) (table : Table) (found : slice_get schema.tables place ≡ Some table)
    (free : (taken news : List Row) → works schema Enforced 0 table.tree taken news ≡ []) (plain : IsPlain (understood schema sql)) where
  pub puts_row : {X : Type 0} (enc : X → Row) (at : List (ℕ × X)) → IsPermutation (old.now.trees table.tree) (map (with_id enc) at) → (terms : List Term) (width : ℕ) (x : ℕ × X) (front : List (ℕ × X)) → table.is_counted ≡ false
      → value_rows (stamped table params) width (length terms / width) terms ≡ with_id enc x ∷ [] → cast_row table (with_id enc x) ≡ with_id enc x → command_of (understood schema sql) ≡ Insert place (Values terms width)
      → (count : ℕ) → Executes sql params old new (Ok count) → IsPermutation (x ∷ at) front → IsPermutation (new.now.trees table.tree) (map (with_id enc) front) × OnlyTable schema table old new
  puts_row enc at rows terms width x front counted values casts is count h moved =
      let e = inserts sql params old new schema has place table found free plain terms width counted is count h in
      let db = old.now.trees in
      let edit : List Row → Edit = λ rs. edit_of db table [] Chosen 0 rs in
      let news : (edit (with_id enc x ∷ [])).news ≡ with_id enc x ∷ [] = ap (λ r. with_rowid Chosen (db table.tree) r ∷ []) casts in
      let real : (edit (value_rows (stamped table params) width (length terms / width) terms)).news ≡ with_id enc x ∷ [] = ap (λ rs. (edit rs).news) values ∙ news in
      let fresh : are_fresh (db table.tree) (with_id enc x ∷ []) ≡ true = subst (λ rs. are_fresh (db table.tree) rs ≡ true) real e.1.fresh in
      let put : new.now.trees table.tree ≡ put_row (with_id enc x) (db table.tree) = e.1.rows ∙ ap (put_all (db table.tree)) real in
      let same : IsPermutation (new.now.trees table.tree) (with_id enc x ∷ map (with_id enc) at) =
      subst (λ rs. IsPermutation rs (with_id enc x ∷ map (with_id enc) at)) (sym put) (added (with_id enc x) (db table.tree) (map (with_id enc) at) rows (not_taken (is_taken (db table.tree) (with_id enc x)) fresh)) in
      (IsPermutation-trans _ _ _ same (IsPermutation-map (with_id enc) _ _ moved), record { schema_is = e.0; others = e.1.tables })
