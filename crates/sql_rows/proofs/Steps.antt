-- What an UPDATE or a DELETE of one table did, once it answered.
use Rattle.std.proofs.Common.{◌≡◌, ◌⊎◌, ℕ, List, [], Some, None, Ok, Err, Result, inl, inr, sym, ap, subst, ◌∙◌, slice_get, refl, Bool, true, false, if◌then◌else◌, MatchBool, ℤ, length, ◌/◌}
use Rattle.sqlite.specs.Order.{Row}
use Rattle.sqlite.specs.Table.{Table}
use Rattle.sqlite.specs.Schema.{Schema}
use Rattle.sqlite.specs.Command.TheVariants.{Update, Delete, Insert}
use Rattle.sqlite.specs.Source.TheVariants.{Values}
use Rattle.sqlite.specs.Term.{Term}
use Rattle.sqlite.specs.Rowids.{Rowids}
use Rattle.sqlite.specs.Edit.{Edit, edit_of, taken_by, Applies}
use Rattle.sqlite.specs.Rowids.TheVariants.{Chosen, Above, Given}
use Rattle.sqlite.specs.Does.{Tally, Does}
use Rattle.sqlite.specs.Rows.{Written, rowids_for, stamped, count_of}
use Rattle.sqlite.specs.Effect.{Database, Answers, value_rows}
use Rattle.sqlite.specs.Listing.{understood}
use Rattle.sqlite.specs.State.{State, mode_of, Executes}
use Rattle.sqlite.proofs.Callers.{IsPlain, command_of, statement_of, runs_as, one_step}
use Rattle.sqlite_schema.specs.declared.program.Program.{Program}
use Rattle.sqlite_schema.specs.declared.schema.Keys.TheVariants.{Enforced}
use Rattle.sqlite_rules.specs.Calls.{ids_of}
use Rattle.sqlite_rules.specs.Action.{works}

pub went : {B E R : Type 0} {b : B} {Stops : E → Type 0} → ((stop : E) × Stops stop × (Ok b ≡ Err stop)) ⊎ R → R
went (inl stopped) = absurd (let e = stopped.2 in cc)
went (inr on) = on

pub same_value : {B E : Type 0} {a b : B} → ◌≡◌ {A = Result B E} (Ok a) (Ok b) → a ≡ b
same_value e = cc

uncounted : (P Q : Type 0) (b c : Bool) → b ≡ false → MatchBool (if b then c else false) P Q → Q
uncounted P Q true c is h = absurd cc
uncounted P Q false c is h = h

chosen_by : (b : Bool) (top : ℤ) → b ≡ false → (if b then Above top else Chosen) ≡ Chosen
chosen_by true top is = absurd cc
chosen_by false top is = refl

-- the rows that the statement's query picked, and what became of the tables
pub record Edits (old new : State) (schema : Schema) (params : Row) (q : Program) (edit : List Row → Edit) : Type 0 where
  pub rows : List Row
  pub answer : Answers (record old.now { schema = schema }) q params rows
  pub applies : Applies schema Enforced old.now.trees (edit rows) new.now.trees
  pub schema_is : new.now.schema ≡ schema

module _ (sql : List ℕ) (params : Row) (old new : State) (schema : Schema) (has : old.now.schema ≡ schema) (at : ℕ) (table : Table) (found : slice_get schema.tables at ≡ Some table)
    (free : (taken news : List Row) → works schema Enforced 0 table.tree taken news ≡ []) (plain : IsPlain (understood schema sql)) where
  pub updates : (q : Program) → command_of (understood schema sql) ≡ Update at q → (count : ℕ) → Executes sql params old new (Ok count) → Edits old new schema params q (λ rows. edit_of old.now.trees table (ids_of rows) Given 1 rows)
  updates q is count h =
      let w = runs_as sql params old new schema has (Update at q) is plain count h in
      let text = statement_of sql (understood schema sql) in
      let placed = subst (λ s. Does old.step_limit (mode_of old) params (record old.now { schema = s }) text None (Update at q) (Ok (w.tally, new.now))) has w.changed in
      let done = went (rw found at placed) in
      let now = ap (λ (p : Tally × Database). p.1) (same_value (went (went done.2).2).2) in
      let picked = went done.1 in
      let written = went picked.2 in
      let trees : done.0.trees ≡ written.0 = ap (λ (it : Written). it.trees) (same_value written.2) in
      let edit = edit_of old.now.trees table (ids_of picked.0) Given 1 picked.0 in
      let step = one_step schema Enforced old.now.trees written.0 edit (free (taken_by old.now.trees edit) edit.news) written.1 in
      record {
        rows = picked.0;
        answer = picked.1;
        applies = subst (Applies schema Enforced old.now.trees (edit_of old.now.trees table (ids_of picked.0) Given 1 picked.0)) (sym (ap (λ (d : Database). d.trees) now ∙ trees)) step;
        schema_is = ap (λ (d : Database). d.schema) now;
      }

  pub deletes : (q : Program) → command_of (understood schema sql) ≡ Delete at q → (count : ℕ) → Executes sql params old new (Ok count) → Edits old new schema params q (λ rows. edit_of old.now.trees table (ids_of rows) Given 0 [])
  deletes q is count h =
      let w = runs_as sql params old new schema has (Delete at q) is plain count h in
      let text = statement_of sql (understood schema sql) in
      let placed = subst (λ s. Does old.step_limit (mode_of old) params (record old.now { schema = s }) text None (Delete at q) (Ok (w.tally, new.now))) has w.changed in
      let done = went (rw found at placed) in
      let now = ap (λ (p : Tally × Database). p.1) (same_value (went (went done.2).2).2) in
      let picked = went done.1 in
      let written = went picked.2 in
      let trees : done.0.trees ≡ written.0 = ap (λ (it : Written). it.trees) (same_value written.2) in
      let edit = edit_of old.now.trees table (ids_of picked.0) Given 0 [] in
      let step = one_step schema Enforced old.now.trees written.0 edit (free (taken_by old.now.trees edit) edit.news) written.1 in
      record {
        rows = picked.0;
        answer = picked.1;
        applies = subst (Applies schema Enforced old.now.trees (edit_of old.now.trees table (ids_of picked.0) Given 0 [])) (sym (ap (λ (d : Database). d.trees) now ∙ trees)) step;
        schema_is = ap (λ (d : Database). d.schema) now;
      }

  -- the rows of VALUES, and what became of the tables
  pub inserts : (terms : List Term) (width : ℕ) → table.is_counted ≡ false → command_of (understood schema sql) ≡ Insert at (Values terms width) → (count : ℕ) → Executes sql params old new (Ok count)
      → (new.now.schema ≡ schema) × Applies schema Enforced old.now.trees (edit_of old.now.trees table [] Chosen 0 (value_rows (stamped table params) width (length terms / width) terms)) new.now.trees
  inserts terms width counted is count h =
      let command = Insert at (Values terms width) in
      let w = runs_as sql params old new schema has command is plain count h in
      let text = statement_of sql (understood schema sql) in
      let db = old.now.trees in
      let placed = subst (λ s. Does old.step_limit (mode_of old) params (record old.now { schema = s }) text None command (Ok (w.tally, new.now))) has w.changed in
      let done = went (rw found at placed) in
      let now = ap (λ (p : Tally × Database). p.1) (same_value (went (went done.2).2).2) in
      let given = went done.1 in
      let counter = went given.2 in
      let written = went counter.2 in
      let counts = went written.2 in
      let none = uncounted _ _ table.is_counted _ counted counts.1 in
      let trees : done.0.trees ≡ written.0 = ap (λ (it : Written). it.trees) (same_value counts.2) ∙ same_value none in
      let chosen : rowids_for table (count_of counter.0) ≡ Chosen = chosen_by table.is_counted (count_of counter.0) counted in
      let edit = edit_of db table [] (rowids_for table (count_of counter.0)) 0 given.0 in
      let step = one_step schema Enforced db written.0 edit (free (taken_by db edit) edit.news) written.1 in
      let rows = given.1.1 in
      let real = edit_of db table [] Chosen 0 (value_rows (stamped table params) width (length terms / width) terms) in
      let same : edit ≡ real = ap (λ (r : Rowids). edit_of db table [] r 0 given.0) chosen ∙ ap (λ rs. edit_of db table [] Chosen 0 rs) rows in (
        ap (λ (d : Database). d.schema) now,
        subst (Applies schema Enforced db real) (sym (ap (λ (d : Database). d.trees) now ∙ trees)) (subst (λ e. Applies schema Enforced db e written.0) same step),
      )
