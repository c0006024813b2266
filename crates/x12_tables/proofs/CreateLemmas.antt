-- A table is made.
use Rattle.std.proofs.Common.{◌≡◌, ◌++◌, ℕ, List, [], ◌∷◌, Bool, true, false, Ok, sym, ap, subst, ◌∙◌, MatchBool}
use Rattle.std.specs.List.{AllByRecursion}
use Rattle.sqlite.specs.Change.{created, next_tree}
use Rattle.sqlite.specs.Command.TheVariants.{CreateTable}
use Rattle.sqlite.specs.Compile.{table_defined_by}
use Rattle.sqlite.specs.Does.{Tally, lacks_sequence}
use Rattle.sqlite.specs.Effect.{Database}
use Rattle.sqlite.specs.Listing.{understood}
use Rattle.sqlite.specs.Schema.{Schema}
use Rattle.sqlite.specs.State.{State, Executes}
use Rattle.sqlite.specs.Table.{Table}
use Rattle.sqlite.specs.Tree.{Trees}
use Rattle.sqlite.proofs.Callers.{IsPlain, command_of, statement_of, runs_as}
use Rattle.sql_rows.proofs.Steps.{same_value, went}
use Rattle.x12_tables.specs.Schema.{HasEmpty}

also_last : (db : Trees) (tables : List Table) (table : Table) → AllByRecursion (λ t. db t.tree ≡ []) tables → db table.tree ≡ [] → AllByRecursion (λ t. db t.tree ≡ []) (tables ++ table ∷ [])
also_last db [] table all last = (last, tt)
also_last db (t ∷ ts) table all last = (all.0, also_last db ts table all.1 last)

pub both_kept : (old new : Trees) (tables : List Table) → AllByRecursion (λ t. new t.tree ≡ old t.tree) tables → AllByRecursion (λ t. old t.tree ≡ []) tables → AllByRecursion (λ t. new t.tree ≡ []) tables
both_kept old new [] kept empty = tt
both_kept old new (t ∷ ts) kept empty = (kept.0 ∙ empty.0, both_kept old new ts kept.1 empty.1)

off : (P Q : Type 0) (b : Bool) → b ≡ false → MatchBool b P Q → Q
off P Q true is h = absurd cc
off P Q false is h = h

module _ (sql : List ℕ) (schema : Schema) (table : Table) (is : command_of (understood schema sql) ≡ CreateTable) (plain : IsPlain (understood schema sql)) (whole : statement_of sql (understood schema sql) ≡ sql)
    (defined : table_defined_by sql ≡ Ok table) (uncounted : lacks_sequence (created schema table) ≡ false) (old new : State) where
  -- a table is made, without rows, and the others stay
  pub makes : HasEmpty schema old.now → (count : ℕ) → Executes sql [] old new (Ok count) → HasEmpty (created schema table) new.now
  makes has count h =
      let w = runs_as sql [] old new schema has.schema_is CreateTable is plain count h in
      let done = went w.changed in
      let now : new.now ≡ done.0 = ap (λ (p : Tally × Database). p.1) (same_value done.2) in
      let made = went done.1 in
      let it = made.1 in
      let same : it.table ≡ table = same_value (sym it.defined ∙ ap table_defined_by whole ∙ defined) in
      let made_is : made.0.schema ≡ created schema table = it.is ∙ ap (λ s. created s it.table) has.schema_is ∙ ap (created schema) same in
      let after : done.0 ≡ made.0 = same_value (off _ _ _ (ap lacks_sequence made_is ∙ uncounted) made.2) in
      let all_now : new.now ≡ made.0 = now ∙ after in
      let kept = subst (λ (s : Schema). AllByRecursion (λ t. made.0.trees t.tree ≡ old.now.trees t.tree) s.tables) has.schema_is it.others in
      let last = subst (λ (s : Schema). made.0.trees (next_tree s) ≡ []) has.schema_is it.empty in
      record {
        schema_is = ap (λ (d : Database). d.schema) all_now ∙ made_is;
        empty = subst (λ (d : Database). AllByRecursion (λ t. d.trees t.tree ≡ []) (created schema table).tables) (sym all_now)
            (also_last made.0.trees schema.tables (record table { tree = next_tree schema }) (both_kept old.now.trees made.0.trees schema.tables kept has.empty) last);
      }
