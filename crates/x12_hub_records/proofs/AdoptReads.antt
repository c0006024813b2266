-- What the four queries show that are asked before records are taken over.
use Rattle.std.proofs.Common.{◌≡◌, ℕ, List, [], ◌∷◌, true, false, inl, inr, codes, refl, subst, arith, Option}
use Rattle.sqlite.specs.declared.types.Value.TheVariants.{Null}
use Rattle.sqlite.specs.Collation.TheVariants.{Binary}
use Rattle.sqlite.specs.Command.{Command}
use Rattle.sqlite.specs.Command.TheVariants.{Select}
use Rattle.sqlite.specs.Effect.{Database}
use Rattle.sqlite.specs.Listing.{understood, reads_listing}
use Rattle.sqlite.specs.Order.{Row}
use Rattle.sqlite.specs.Ops.{binary}
use Rattle.sqlite.specs.Program.{overlay}
use Rattle.sqlite.specs.State.{State, Shown}
use Rattle.sqlite.specs.Term.{Term, col, lit, op2}
use Rattle.sqlite.proofs.Callers.{IsPlain, command_of, reads_as}
use Rattle.sqlite_schema.specs.Rules.{Obeys}
use Rattle.sqlite_schema.specs.declared.schema.Constraint.TheVariants.{Datatype, NotNull, Unique}
use Rattle.sqlite_sql.specs.declared.ops.BinaryOp.TheVariants.{Is}
use Rattle.sqlite_tied.specs.Compute.{everything}
use Rattle.sqlite_value.specs.declared.keys.Key.{Key}
use Rattle.sql_rows.proofs.Selects.{one_table}
use Rattle.sql_rows.specs.Keyed.{with_id}
use Rattle.sql_rows.specs.Query.{IsQuery}
use Rattle.sql_rows.proofs.Queries.{select_asks}
use Rattle.x12_numbers.proofs.Shelf.{all_of_both}
use Rattle.x12_tables.proofs.AllRows.{read_rows, all_moved}
use Rattle.x12_tables.proofs.TakesLemmas.{ReadsAll}
use Rattle.x12_tables.specs.Adopt.{ObeysSchema}
use Rattle.x12_tables.specs.OneRow.{whole, IsOneRow}
use Rattle.x12_hub_records.proofs.DecidedLemmas.{has_decided}
use Rattle.x12_hub_records.proofs.EntryLemmas.{holds_directory}
use Rattle.x12_hub_records.proofs.LoadLemmas.{waiting_text, waiting_is, waiting_command}
use Rattle.x12_hub_records.proofs.NumbersKept.{numbers_text, numbers_shows, numbers_is, numbers_names, numbers_hold, numbers_command}
use Rattle.x12_hub_records.proofs.WaitsLemmas.{has_waiting}
use Rattle.x12_hub_records.specs.HubAdopt.{FindsEntries, FindsWaiting, FindsHubNumbers, AreDecided, AreNumbers, AreWaiting, FindsDecided, AreEntries}
use Rattle.x12_hub_records.specs.HubSchema.{hub_schema}
use Rattle.x12_hub_records.specs.HubTables.{hubnumber_row}
use Rattle.x12_hub_records.specs.declared.hub_numbers.HubNumbers.{HubNumbers}

abbrev pub by_first : List (Term × Key)
by_first = (col 1 0, record { collation = Binary; descending = false }) ∷ []

abbrev pub entries_text : List ℕ
entries_text = codes "SELECT at, party, node FROM directory ORDER BY at"

abbrev entries_command : Command
entries_command = Select (record { lets = []; body = one_table 0 [] (col 1 0 ∷ col 1 2 ∷ col 1 3 ∷ []) by_first }) (codes "at" ∷ codes "party" ∷ codes "node" ∷ [])

pub entries_is : (command_of (understood hub_schema entries_text) ≡ entries_command) × (reads_listing hub_schema entries_text ≡ false) × IsPlain (understood hub_schema entries_text)
unfolding understood everything
entries_is = (refl, refl, (refl, refl))

pub entries_asks : IsQuery entries_text
unfolding everything
entries_asks = select_asks entries_text ((λ s base. refl), (λ s. refl))

abbrev pub decided_text : List ℕ
decided_text = codes "SELECT item, node, refusal IS NULL AS boxed FROM decision ORDER BY item"

abbrev decided_command : Command
decided_command = Select (record { lets = []; body = one_table 2 [] (col 1 0 ∷ col 1 2 ∷ op2 (Is Binary) (col 1 3) (lit Null) ∷ []) by_first }) (codes "item" ∷ codes "node" ∷ codes "boxed" ∷ [])

pub decided_is : (command_of (understood hub_schema decided_text) ≡ decided_command) × (reads_listing hub_schema decided_text ≡ false) × IsPlain (understood hub_schema decided_text)
unfolding understood everything
decided_is = (refl, refl, (refl, refl))

pub decided_reads : ReadsAll hub_schema 2 (col 1 0 ∷ col 1 2 ∷ op2 (Is Binary) (col 1 3) (lit Null) ∷ []) by_first (codes "item" ∷ codes "node" ∷ codes "boxed" ∷ []) decided_text
unfolding understood everything
decided_reads = record {
  is = decided_is;
  alone = (omega arith, refl);
  typed = λ trees h. elim h [ inl e ↦ (let off : true ≡ false = e.1 in absurd cc) | inr (inl e) ↦ (let off = e.0 in absurd cc) | inr (inr e) ↦ (let off = e.0 in absurd cc) ];
}

pub decided_asks : IsQuery decided_text
unfolding everything
decided_asks = select_asks decided_text ((λ s base. refl), (λ s. refl))

pub entries_reads : ReadsAll hub_schema 0 (col 1 0 ∷ col 1 2 ∷ col 1 3 ∷ []) by_first (codes "at" ∷ codes "party" ∷ codes "node" ∷ []) entries_text
unfolding understood everything
entries_reads = record {
  is = entries_is;
  alone = (omega arith, refl);
  typed = λ trees h. elim h [ inl e ↦ (let off : true ≡ false = e.1 in absurd cc) | inr (inl e) ↦ (let off = e.0 in absurd cc) | inr (inr e) ↦ (let off = e.0 in absurd cc) ];
}

pub waiting_reads : ReadsAll hub_schema 4 (col 1 0 ∷ col 1 2 ∷ []) by_first (codes "item" ∷ codes "node" ∷ []) waiting_text
unfolding understood everything
waiting_reads = record {
  is = waiting_is;
  alone = (omega arith, refl);
  typed = λ trees h. elim h [ inl e ↦ (let off : true ≡ false = e.1 in absurd cc) | inr (inl e) ↦ (let off = e.0 in absurd cc) | inr (inr e) ↦ (let off = e.0 in absurd cc) ];
}

pub numbers_reads : ReadsAll hub_schema 5 numbers_shows [] numbers_names numbers_text
unfolding understood everything
numbers_reads = record {
  is = numbers_is;
  alone = (omega arith, refl);
  typed = λ trees h. elim h [ inl e ↦ (let off : true ≡ false = e.1 in absurd cc) | inr (inl e) ↦ (let off = e.0 in absurd cc) | inr (inr e) ↦ (let off = e.0 in absurd cc) ];
}

obeys : (db : Database) → ObeysSchema hub_schema db → Obeys hub_schema db.trees
obeys db h = subst (λ s. Obeys s db.trees) h.schema_is h.sound.obeys

module _ (old new : State) (h : ObeysSchema hub_schema old.now) (rows : List Row) where
  pub finds_entries : Shown entries_text [] old new rows → (end : ℕ) → AreEntries 0 end rows → FindsEntries old.now end
  finds_entries shown end are =
      let got = reads_as entries_text [] old new hub_schema h.schema_is entries_command entries_is.0 entries_is.2 entries_is.1 rows shown in
      let all = read_rows 0 (col 1 0 ∷ col 1 2 ∷ col 1 3 ∷ []) by_first (overlay old.now.trees []) rows (got.answer Null) in
      let rules = obeys old.now h in
      let stored = all_of_both _ _ (old.now.trees 0) (rules.rules Datatype).0 (rules.rules NotNull).0 in
      holds_directory old.now.trees end rows all.0 stored all.1 all.2 are

  pub finds_decided : Shown decided_text [] old new rows → (nodes : List (Option ℕ)) → AreDecided 1 nodes rows → FindsDecided old.now nodes
  unfolding binary
  finds_decided shown nodes are =
      let got = reads_as decided_text [] old new hub_schema h.schema_is decided_command decided_is.0 decided_is.2 decided_is.1 rows shown in
      let all = read_rows 2 (col 1 0 ∷ col 1 2 ∷ op2 (Is Binary) (col 1 3) (lit Null) ∷ []) by_first (overlay old.now.trees []) rows (got.answer Null) in
      let rules = obeys old.now h in
      let stored = all_of_both _ _ (old.now.trees 2) (rules.rules Datatype).1.0 (rules.rules NotNull).1.0 in
      has_decided old.now.trees nodes rows all.0 stored (rules.rules Unique).1.0 all.1 all.2 are

  pub finds_waiting : Shown waiting_text [] old new rows → (boxed : List (Option ℕ)) → AreWaiting boxed 0 rows → FindsWaiting boxed old.now
  finds_waiting shown boxed are =
      let got = reads_as waiting_text [] old new hub_schema h.schema_is waiting_command waiting_is.0 waiting_is.2 waiting_is.1 rows shown in
      let all = read_rows 4 (col 1 0 ∷ col 1 2 ∷ []) by_first (overlay old.now.trees []) rows (got.answer Null) in
      let rules = obeys old.now h in
      let stored = all_of_both _ _ (old.now.trees 4) (rules.rules Datatype).1.1.0 (rules.rules NotNull).1.1.0 in
      has_waiting old.now.trees boxed rows all.0 stored all.1 all.2 are

  pub finds_numbers : Shown numbers_text [] old new rows → (n : HubNumbers) → AreNumbers n rows → FindsHubNumbers old.now n
  finds_numbers shown n are =
      let got = reads_as numbers_text [] old new hub_schema h.schema_is numbers_command numbers_is.0 numbers_is.2 numbers_is.1 rows shown in
      let all = read_rows 5 numbers_shows [] (overlay old.now.trees []) rows (got.answer Null) in
      let rules = obeys old.now h in
      let stored = all_of_both _ _ (old.now.trees 5) (rules.rules Datatype).1.1.1.0 (rules.rules NotNull).1.1.1.0 in
      let read = subst (IsOneRow (whole (with_id hubnumber_row (1, n)))) all.2 are.row in
      record { schema_is = h.schema_is; holds = record { are = numbers_hold n (old.now.trees 5) all.0 (all_moved _ (old.now.trees 5) all.0 all.1 stored) all.1 read; party = are.party; few = are.narrow.1 } }
