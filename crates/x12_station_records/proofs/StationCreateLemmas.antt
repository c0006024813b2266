-- What the CREATE statements make of a database that holds nothing, for a station's records.
use Rattle.std.proofs.Common.{◌≡◌, ◌∙◌, ℕ, List, [], Ok, None, Some, refl, sym, ap, subst, slice_get}
use Rattle.std.specs.List.{AllByRecursion}
use Rattle.sqlite.specs.Change.{created, indexed}
use Rattle.sqlite.specs.Command.TheVariants.{CreateTable, CreateIndex}
use Rattle.sqlite.specs.Does.{Tally, Does}
use Rattle.sqlite.specs.Effect.{Database}
use Rattle.sqlite.specs.Listing.{understood}
use Rattle.sqlite.specs.Schema.{Schema}
use Rattle.sqlite.specs.State.{State, mode_of, Executes}
use Rattle.sqlite.specs.Table.{Table}
use Rattle.sqlite.proofs.Callers.{IsPlain, command_of, statement_of, runs_as}
use Rattle.sqlite_resolve.specs.Compile.{index_defined_by}
use Rattle.sqlite_schema.specs.declared.schema.Index.{Index}
use Rattle.sqlite_tied.specs.Compute.{everything}
use Rattle.sql_rows.proofs.Steps.{went, same_value}
use Rattle.x12_tables.proofs.CreateLemmas.{both_kept, makes}
use Rattle.x12_tables.specs.Schema.{no_schema, HasEmpty}
use Rattle.x12_station_records.proofs.StationSchemaLemmas.{made_indexes_are, tables_are}
use Rattle.x12_station_records.specs.StationCreate.{outbound_schema}
use Rattle.x12_station_records.specs.StationSchema.{numbers, agreement, outbound, inbound, numbers_text, agreement_text, outbound_text, outset_text, inbound_text, posting_text, station_tables, outset_group_text, outset_fate_text, grouped_tables, outbound_seq_text, fated_tables, outbound_seq, outset_group, posting, outset_fate, station_schema, outset}

abbrev pub one : Schema
one = created no_schema (numbers 0)

abbrev pub two : Schema
two = created one (agreement 0)

abbrev pub three : Schema
three = created two (outbound 0)

abbrev pub five : Schema
five = created outbound_schema (inbound 0)

record IsMadeBy (schema : Schema) (text : List ℕ) : Type 0 where
  is : command_of (understood schema text) ≡ CreateTable
  plain : IsPlain (understood schema text)
  whole : statement_of text (understood schema text) ≡ text

numbers_made : IsMadeBy no_schema numbers_text
unfolding understood everything
numbers_made = record { is = refl; plain = (refl, refl); whole = refl }

agreement_made : IsMadeBy one agreement_text
unfolding understood everything
agreement_made = record { is = refl; plain = (refl, refl); whole = refl }

outbound_made : IsMadeBy two outbound_text
unfolding understood everything
outbound_made = record { is = refl; plain = (refl, refl); whole = refl }

outset_made : IsMadeBy three outset_text
unfolding understood everything
outset_made = record { is = refl; plain = (refl, refl); whole = refl }

inbound_made : IsMadeBy outbound_schema inbound_text
unfolding understood everything
inbound_made = record { is = refl; plain = (refl, refl); whole = refl }

posting_made : IsMadeBy five posting_text
unfolding understood everything
posting_made = record { is = refl; plain = (refl, refl); whole = refl }

group_made : (command_of (understood station_tables outset_group_text) ≡ CreateIndex 3) × IsPlain (understood station_tables outset_group_text) × (statement_of outset_group_text (understood station_tables outset_group_text) ≡ outset_group_text)
unfolding understood everything
group_made = (refl, (refl, refl), refl)

fate_made : (command_of (understood grouped_tables outset_fate_text) ≡ CreateIndex 3) × IsPlain (understood grouped_tables outset_fate_text) × (statement_of outset_fate_text (understood grouped_tables outset_fate_text) ≡ outset_fate_text)
unfolding understood everything
fate_made = (refl, (refl, refl), refl)

seq_made : (command_of (understood fated_tables outbound_seq_text) ≡ CreateIndex 2) × IsPlain (understood fated_tables outbound_seq_text) × (statement_of outbound_seq_text (understood fated_tables outbound_seq_text) ≡ outbound_seq_text)
unfolding understood everything
seq_made = (refl, (refl, refl), refl)

module _ (sql : List ℕ) (schema : Schema) (at : ℕ) (table : Table) (index : Index) (is : command_of (understood schema sql) ≡ CreateIndex at) (plain : IsPlain (understood schema sql))
    (whole : statement_of sql (understood schema sql) ≡ sql) (found : slice_get schema.tables at ≡ Some table) (defined : index_defined_by table sql ≡ Ok index) (old new : State) where
  -- an index is made, and the tables stay without rows
  pub indexes : HasEmpty schema old.now → (count : ℕ) → Executes sql [] old new (Ok count) → HasEmpty (indexed schema table index) new.now
  indexes has count h =
      let w = runs_as sql [] old new schema has.schema_is (CreateIndex at) is plain count h in
      let text = statement_of sql (understood schema sql) in
      let placed = subst (λ s. Does old.step_limit (mode_of old) [] (record old.now { schema = s }) text None (CreateIndex at) (Ok (w.tally, new.now))) has.schema_is w.changed in
      let done = went (rw found at placed) in
      let now : new.now ≡ done.0 = ap (λ (p : Tally × Database). p.1) (same_value done.2) in
      let it = done.1 in
      let same : it.index ≡ index = same_value (sym it.defined ∙ ap (index_defined_by table) whole ∙ defined) in
      record {
        schema_is = ap (λ (d : Database). d.schema) now ∙ it.is ∙ ap (indexed schema table) same;
        empty = subst (λ (d : Database). AllByRecursion (λ t. d.trees t.tree ≡ []) schema.tables) (sym now) (both_kept old.now.trees done.0.trees schema.tables it.rows has.empty);
      }

module _ (a b : State) (count : ℕ) where
  pub makes_numbers : Executes numbers_text [] a b (Ok count) → HasEmpty no_schema a.now → HasEmpty one b.now
  makes_numbers h has = makes numbers_text no_schema (numbers 0) numbers_made.is numbers_made.plain numbers_made.whole tables_are.0 refl a b has count h

  pub makes_agreement : Executes agreement_text [] a b (Ok count) → HasEmpty one a.now → HasEmpty two b.now
  makes_agreement h has = makes agreement_text one (agreement 0) agreement_made.is agreement_made.plain agreement_made.whole tables_are.1 refl a b has count h

  pub makes_outbound : Executes outbound_text [] a b (Ok count) → HasEmpty two a.now → HasEmpty three b.now
  makes_outbound h has = makes outbound_text two (outbound 0) outbound_made.is outbound_made.plain outbound_made.whole tables_are.2 refl a b has count h

  pub makes_outset : Executes outset_text [] a b (Ok count) → HasEmpty three a.now → HasEmpty outbound_schema b.now
  makes_outset h has = makes outset_text three (outset 0) outset_made.is outset_made.plain outset_made.whole tables_are.3 refl a b has count h

  pub makes_inbound : Executes inbound_text [] a b (Ok count) → HasEmpty outbound_schema a.now → HasEmpty five b.now
  makes_inbound h has = makes inbound_text outbound_schema (inbound 0) inbound_made.is inbound_made.plain inbound_made.whole tables_are.4 refl a b has count h

  pub makes_posting : Executes posting_text [] a b (Ok count) → HasEmpty five a.now → HasEmpty station_tables b.now
  makes_posting h has = makes posting_text five (posting 0) posting_made.is posting_made.plain posting_made.whole tables_are.5 refl a b has count h

  pub makes_group : Executes outset_group_text [] a b (Ok count) → HasEmpty station_tables a.now → HasEmpty grouped_tables b.now
  makes_group h has = indexes outset_group_text station_tables 3 (outset 4) (outset_group 0 4) group_made.0 group_made.1 group_made.2 refl made_indexes_are.0 a b has count h

  pub makes_fate : Executes outset_fate_text [] a b (Ok count) → HasEmpty grouped_tables a.now → HasEmpty fated_tables b.now
  makes_fate h has = indexes outset_fate_text grouped_tables 3 (outset 4) (outset_fate 0 4) fate_made.0 fate_made.1 fate_made.2 refl made_indexes_are.1 a b has count h

  pub makes_seq : Executes outbound_seq_text [] a b (Ok count) → HasEmpty fated_tables a.now → HasEmpty station_schema b.now
  makes_seq h has = indexes outbound_seq_text fated_tables 2 (outbound 3) (outbound_seq 0 3) seq_made.0 seq_made.1 seq_made.2 refl made_indexes_are.2 a b has count h
