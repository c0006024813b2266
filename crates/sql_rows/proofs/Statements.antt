-- What a DELETE, an INSERT of one row and an UPDATE of one row make of a table.
use Rattle.std.proofs.Common.{◌≡◌, ◌≢◌, ◌≤◌, ◌/◌, ◌&&◌, ℕ, List, [], ◌∷◌, length, map, filter, not, Bool, true, false, Some, Ok, slice_get, refl, sym, ap, subst, ◌∙◌, arith, IsPermutation}
use Rattle.std.specs.List.{AllByRecursion, list_all}
use Rattle.std.proofs.lemmas.List.Sorted.{IsPermutation-map, IsPermutation-trans}
use Rattle.sqlite.specs.declared.types.Value.TheVariants.{Null}
use Rattle.sqlite.specs.Order.{Row}
use Rattle.sqlite.specs.Tree.{Trees, put_row}
use Rattle.sqlite.specs.Table.{Table}
use Rattle.sqlite.specs.Schema.{Schema}
use Rattle.sqlite.specs.Term.{Term, col, holds}
use Rattle.sqlite.specs.Query.{Output, output, IsAnswer}
use Rattle.sqlite.specs.Program.{overlay}
use Rattle.sqlite.specs.Cast.{cast_row}
use Rattle.sqlite.specs.Command.TheVariants.{Update, Delete, Insert}
use Rattle.sqlite.specs.Source.TheVariants.{Values}
use Rattle.sqlite.specs.Effect.{value_rows}
use Rattle.sqlite.specs.Rows.{stamped}
use Rattle.sqlite.specs.Edit.{Edit, edit_of, edited, are_fresh, is_taken, put_all, with_rowid}
use Rattle.sqlite.specs.Rowids.TheVariants.{Chosen, Given}
use Rattle.sqlite_rules.specs.Calls.{ids_of}
use Rattle.sqlite_trees.proofs.ListLemmas.{map-map}
use Rattle.std.proofs.lemmas.List.{length-map}
use Rattle.sqlite.specs.State.{State, Executes}
use Rattle.sqlite.specs.Listing.{understood}
use Rattle.sqlite.proofs.Callers.{IsPlain, command_of}
use Rattle.sqlite_rules.specs.Action.{works}
use Rattle.sqlite_schema.specs.declared.program.Program.{Program}
use Rattle.sqlite_schema.specs.declared.schema.Keys.TheVariants.{Enforced}
use Rattle.sql_rows.specs.Keyed.{with_id, RisesFrom, AreRows}
use Rattle.sql_rows.proofs.Selects.{one_table, answers, few}
use Rattle.sql_rows.proofs.Steps.{deletes, inserts, updates}
use Rattle.sql_rows.proofs.Inserts.{added, updated}
use Rattle.sql_rows.proofs.Places.{picked, step, unmoved, kept_rise}
use Rattle.sql_rows.proofs.Deletes.{id_row, deleted, filter_rises}

-- the schema and each other table stay
pub record OnlyTable (schema : Schema) (table : Table) (old new : State) : Type 0 where
  pub schema_is : new.now.schema ≡ schema
  pub others : AllByRecursion (λ t. t.tree ≢ table.tree → new.now.trees t.tree ≡ old.now.trees t.tree) schema.tables

abbrev pub delete_of : ℕ → List Term → Program
delete_of tree wheres = record { lets = []; body = one_table tree wheres (col 1 0 ∷ []) [] }

seconds : {X : Type 0} (enc : X → Row) (ys : List (ℕ × X)) → map (λ (o : Output). o.1) (map (λ (x : ℕ × X). ([], id_row enc x)) ys) ≡ map (id_row enc) ys
seconds enc [] = refl
seconds enc (y ∷ ys) = ap (λ more. id_row enc y ∷ more) (seconds enc ys)

pub not_taken : (b : Bool) → not b && true ≡ true → b ≡ false
not_taken true h = absurd cc
not_taken false h = refl

one_or_none : {X : Type 0} (enc : X → Row) (db : Trees) (table : Table) (p : X → Bool) (upd : X → X) (at : List (ℕ × X)) → AreRows enc at (db table.tree)
    → ((x : ℕ × X) → cast_row table (with_id enc x) ≡ with_id enc x) → (ys : List (ℕ × X)) → filter (λ (x : ℕ × X). p x.1) at ≡ ys → length ys ≤ 1
    → IsPermutation (edited db (edit_of db table (ids_of (map (picked enc upd) ys)) Given 1 (map (picked enc upd) ys))) (map (with_id enc) (map (step enc p upd) at))
one_or_none enc db table p upd at rows casts [] none low = subst (λ xs. IsPermutation (db table.tree) (map (with_id enc) xs)) (sym (unmoved enc p upd at none)) rows.same
one_or_none enc db table p upd at rows casts (x ∷ []) one low = rw (casts (x.0, upd x.1)) (updated enc p upd 0 at x (db table.tree) rows.rise rows.same one)
one_or_none enc db table p upd at rows casts (x ∷ y ∷ more) two low = absurd (omega arith)

module _ (sql : List ℕ) (params : Row) (old new : State) (schema : Schema) (has : old.now.schema ≡ schema) (place : ℕ) (table : Table) (found : slice_get schema.tables place ≡ Some table)
    (free : (taken news : List Row) → works schema Enforced 0 table.tree taken news ≡ []) (plain : IsPlain (understood schema sql))
    (stored : (db : Trees) → overlay db [] table.tree ≡ db table.tree) where
  module _ {X : Type 0} (enc : X → Row) (at : List (ℕ × X)) (rows : AreRows enc at (old.now.trees table.tree)) where
    pub drops : (wheres : List Term) (p : ℕ × X → Bool) → ((x : ℕ × X) → list_all (holds (params ∷ with_id enc x ∷ [])) wheres ≡ p x)
        → command_of (understood schema sql) ≡ Delete place (delete_of table.tree wheres) → (count : ℕ) → Executes sql params old new (Ok count)
        → AreRows enc (filter (λ (x : ℕ × X). not (p x)) at) (new.now.trees table.tree) × OnlyTable schema table old new
    drops wheres p tests is count h =
        let e = deletes sql params old new schema has place table found free plain (delete_of table.tree wheres) is count h in
        let a : IsAnswer (one_table table.tree wheres (col 1 0 ∷ []) []) (overlay old.now.trees []) params e.rows = e.answer.answer Null in
        let out : ℕ × X → Output = λ x. ([], id_row enc x) in
        let got = answers params table.tree wheres (col 1 0 ∷ []) [] (with_id enc) p out tests (λ x. refl) (overlay old.now.trees []) at e.rows (subst (λ rs. IsPermutation rs (map (with_id enc) at)) (sym (stored old.now.trees)) rows.same) a in
        let ys = filter p at in
        let moved : IsPermutation (map (λ (o : Output). o.1) (map out ys)) (map (λ (o : Output). o.1) got.0) = IsPermutation-map (λ (o : Output). o.1) _ _ got.1 in
        let picked : IsPermutation (map (id_row enc) ys) e.rows = subst (IsPermutation (map (id_row enc) ys)) (sym got.3) (subst (λ xs. IsPermutation xs (map (λ (o : Output). o.1) got.0)) (seconds enc ys) moved) in (
          record {
            same = subst (λ rs. IsPermutation rs (map (with_id enc) (filter (λ (x : ℕ × X). not (p x)) at))) (sym e.applies.rows) (deleted enc old.now.trees table p at e.rows rows.same rows.rise picked);
            rise = filter_rises enc (λ x. not (p x)) 0 at rows.rise;
          },
          record { schema_is = e.schema_is; others = e.applies.tables },
        )

    -- INSERT of one row with its key, in front of the values or wherever else its key stands
    pub adds : (terms : List Term) (width : ℕ) (x : ℕ × X) (front : List (ℕ × X)) → table.is_counted ≡ false → value_rows (stamped table params) width (length terms / width) terms ≡ with_id enc x ∷ []
        → cast_row table (with_id enc x) ≡ with_id enc x → command_of (understood schema sql) ≡ Insert place (Values terms width) → (count : ℕ) → Executes sql params old new (Ok count)
        → IsPermutation (x ∷ at) front → RisesFrom 0 front → AreRows enc front (new.now.trees table.tree) × OnlyTable schema table old new
    adds terms width x front counted values casts is count h moved rise =
        let e = inserts sql params old new schema has place table found free plain terms width counted is count h in
        let db = old.now.trees in
        let edit : List Row → Edit = λ rs. edit_of db table [] Chosen 0 rs in
        let news : (edit (with_id enc x ∷ [])).news ≡ with_id enc x ∷ [] = ap (λ r. with_rowid Chosen (db table.tree) r ∷ []) casts in
        let real : (edit (value_rows (stamped table params) width (length terms / width) terms)).news ≡ with_id enc x ∷ [] = ap (λ rs. (edit rs).news) values ∙ news in
        let fresh : are_fresh (db table.tree) (with_id enc x ∷ []) ≡ true = subst (λ rs. are_fresh (db table.tree) rs ≡ true) real e.1.fresh in
        let put : new.now.trees table.tree ≡ put_row (with_id enc x) (db table.tree) = e.1.rows ∙ ap (put_all (db table.tree)) real in
        let same : IsPermutation (new.now.trees table.tree) (with_id enc x ∷ map (with_id enc) at) =
        subst (λ rs. IsPermutation rs (with_id enc x ∷ map (with_id enc) at)) (sym put) (added (with_id enc x) (db table.tree) (map (with_id enc) at) rows.same (not_taken (is_taken (db table.tree) (with_id enc x)) fresh)) in (
          record { same = IsPermutation-trans _ _ _ same (IsPermutation-map (with_id enc) _ _ moved); rise = rise },
          record { schema_is = e.0; others = e.1.tables },
        )

    -- UPDATE of the row that a test picks, if there is one
    pub changes : (wheres project : List Term) (p : X → Bool) (upd : X → X) → ((x : ℕ × X) → list_all (holds (params ∷ with_id enc x ∷ [])) wheres ≡ p x.1)
        → ((x : ℕ × X) → output (one_table table.tree wheres project []) (params ∷ with_id enc x ∷ []) ≡ ([], picked enc upd x)) → ((x : ℕ × X) → cast_row table (with_id enc x) ≡ with_id enc x)
        → length (filter (λ (x : ℕ × X). p x.1) at) ≤ 1 → command_of (understood schema sql) ≡ Update place (record { lets = []; body = one_table table.tree wheres project [] })
        → (count : ℕ) → Executes sql params old new (Ok count) → AreRows enc (map (step enc p upd) at) (new.now.trees table.tree) × OnlyTable schema table old new
    changes wheres project p upd tests shows casts low is count h =
        let program : Program = record { lets = []; body = one_table table.tree wheres project [] } in
        let e = updates sql params old new schema has place table found free plain program is count h in
        let a : IsAnswer (one_table table.tree wheres project []) (overlay old.now.trees []) params e.rows = e.answer.answer Null in
        let out : ℕ × X → Output = λ x. ([], picked enc upd x) in
        let got = answers params table.tree wheres project [] (with_id enc) (λ (x : ℕ × X). p x.1) out tests shows (overlay old.now.trees []) at e.rows (subst (λ rs. IsPermutation rs (map (with_id enc) at)) (sym (stored old.now.trees)) rows.same) a in
        let ys = filter (λ (x : ℕ × X). p x.1) at in
        let short : length (map out ys) ≤ 1 = omega (arith, low, length-map ys out) in
        let rows_are : e.rows ≡ map (picked enc upd) ys = got.3 ∙ ap (map (λ (o : Output). o.1)) (few (map out ys) got.0 short got.1) ∙ map-map (λ (o : Output). o.1) out ys in
        let same : IsPermutation (edited old.now.trees (edit_of old.now.trees table (ids_of (map (picked enc upd) ys)) Given 1 (map (picked enc upd) ys))) (map (with_id enc) (map (step enc p upd) at)) =
        one_or_none enc old.now.trees table p upd at rows casts ys refl low in (
          record {
            same = subst (λ rs. IsPermutation rs (map (with_id enc) (map (step enc p upd) at))) (sym (e.applies.rows ∙ ap (λ rs. edited old.now.trees (edit_of old.now.trees table (ids_of rs) Given 1 rs)) rows_are)) same;
            rise = kept_rise enc p upd 0 at rows.rise;
          },
          record { schema_is = e.schema_is; others = e.applies.tables },
        )
