-- What the queries show that are asked before a station's records are taken over.
use Rattle.std.proofs.Common.{◌≡◌, ◌≤◌, ◌^◌, ℕ, List, [], ◌∷◌, codes, map, true, false, inl, inr, refl, subst, arith}
use Rattle.sqlite.specs.declared.types.Value.TheVariants.{Null}
use Rattle.sqlite.specs.Command.{Command}
use Rattle.sqlite.specs.Command.TheVariants.{Select}
use Rattle.sqlite.specs.Effect.{Database}
use Rattle.sqlite.specs.Listing.{understood, reads_listing}
use Rattle.sqlite.specs.Order.{Row}
use Rattle.sqlite.specs.Program.{overlay}
use Rattle.sqlite.specs.State.{State, Shown}
use Rattle.sqlite.specs.Term.{Term, col}
use Rattle.sqlite.proofs.Callers.{IsPlain, command_of, reads_as}
use Rattle.sqlite_schema.specs.Rules.{Obeys}
use Rattle.sqlite_schema.specs.declared.schema.Constraint.TheVariants.{Datatype, NotNull}
use Rattle.sqlite_tied.specs.Compute.{everything}
use Rattle.sql_rows.proofs.Selects.{one_table}
use Rattle.x12_numbers.specs.Book.{Numbers}
use Rattle.sql_rows.specs.Keyed.{with_id}
use Rattle.sql_rows.specs.Query.{IsQuery}
use Rattle.sql_rows.proofs.Queries.{select_asks}
use Rattle.x12_numbers.proofs.Shelf.{all_of_both}
use Rattle.x12_tables.proofs.AllRows.{read_rows, all_moved}
use Rattle.x12_tables.proofs.TakesLemmas.{ReadsAll}
use Rattle.x12_tables.specs.Adopt.{ObeysSchema}
use Rattle.x12_tables.specs.OneRow.{whole, IsOneRow}
use Rattle.x12_station_records.proofs.StationInboundRows.{postings_hold, arrivals_hold}
use Rattle.x12_station_records.proofs.StationKeptRows.{numbers_hold, agreements_hold}
use Rattle.x12_station_records.proofs.StationListings.{by_at}
use Rattle.x12_station_records.proofs.StationNumberLemmas.{numbers_shows, numbers_text, numbers_is, numbers_names, numbers_command}
use Rattle.x12_station_records.proofs.StationSentRows.{sets_hold, submissions_hold}
use Rattle.x12_station_records.specs.StationAdopt.{FindsPostings, AreArrivals, FindsSets, FindsAgreed, FindsSubmitted, AreSetRows, ArePostings, FindsArrived, AreAgreed, set_read, AreSubmissions, FindsNumbers, AreLastNumbers, AreOfAll}
use Rattle.x12_station_records.specs.StationSchema.{station_schema}
use Rattle.x12_station_records.specs.StationTables.{numbers_row}
use Rattle.x12_station_records.specs.declared.station_numbers.NumbersRow.{NumbersRow}

abbrev pub pairs_text : List ℕ
pairs_text = codes "SELECT partner, functional, setid, lenient, at FROM agreement ORDER BY at"

abbrev pub pairs_shows : List Term
pairs_shows = col 1 2 ∷ col 1 3 ∷ col 1 5 ∷ col 1 4 ∷ col 1 0 ∷ []

abbrev pub pairs_command : Command
pairs_command = Select (record { lets = []; body = one_table 1 [] pairs_shows by_at }) (codes "partner" ∷ codes "functional" ∷ codes "setid" ∷ codes "lenient" ∷ codes "at" ∷ [])

pub pairs_is : (command_of (understood station_schema pairs_text) ≡ pairs_command) × (reads_listing station_schema pairs_text ≡ false) × IsPlain (understood station_schema pairs_text)
unfolding understood everything
pairs_is = (refl, refl, (refl, refl))

pub pairs_asks : IsQuery pairs_text
unfolding everything
pairs_asks = select_asks pairs_text ((λ s base. refl), (λ s. refl))

abbrev pub sent_text : List ℕ
sent_text = codes "SELECT icn, seq, partner FROM outbound ORDER BY icn"

abbrev pub sent_shows : List Term
sent_shows = col 1 0 ∷ col 1 2 ∷ col 1 3 ∷ []

abbrev pub sent_command : Command
sent_command = Select (record { lets = []; body = one_table 3 [] sent_shows by_at }) (codes "icn" ∷ codes "seq" ∷ codes "partner" ∷ [])

pub sent_is : (command_of (understood station_schema sent_text) ≡ sent_command) × (reads_listing station_schema sent_text ≡ false) × IsPlain (understood station_schema sent_text)
unfolding understood everything
sent_is = (refl, refl, (refl, refl))

pub sent_asks : IsQuery sent_text
unfolding everything
sent_asks = select_asks sent_text ((λ s base. refl), (λ s. refl))

abbrev pub sets_text : List ℕ
sets_text = codes "SELECT grp, place, functional, gcn, number, fate, icn, at FROM outset ORDER BY at"

abbrev pub sets_shows : List Term
sets_shows = col 1 3 ∷ col 1 4 ∷ col 1 6 ∷ col 1 5 ∷ col 1 7 ∷ col 1 8 ∷ col 1 2 ∷ col 1 0 ∷ []

abbrev pub sets_command : Command
sets_command =
    Select (record { lets = []; body = one_table 4 [] sets_shows by_at })
    (codes "grp" ∷ codes "place" ∷ codes "functional" ∷ codes "gcn" ∷ codes "number" ∷ codes "fate" ∷ codes "icn" ∷ codes "at" ∷ [])

pub sets_is : (command_of (understood station_schema sets_text) ≡ sets_command) × (reads_listing station_schema sets_text ≡ false) × IsPlain (understood station_schema sets_text)
unfolding understood everything
sets_is = (refl, refl, (refl, refl))

pub sets_asks : IsQuery sets_text
unfolding everything
sets_asks = select_asks sets_text ((λ s base. refl), (λ s. refl))

abbrev pub arrived_text : List ℕ
arrived_text = codes "SELECT seq, partner, icn FROM inbound ORDER BY seq"

abbrev pub arrived_shows : List Term
arrived_shows = col 1 0 ∷ col 1 2 ∷ col 1 3 ∷ []

abbrev pub arrived_command : Command
arrived_command = Select (record { lets = []; body = one_table 6 [] arrived_shows by_at }) (codes "seq" ∷ codes "partner" ∷ codes "icn" ∷ [])

pub arrived_is : (command_of (understood station_schema arrived_text) ≡ arrived_command) × (reads_listing station_schema arrived_text ≡ false) × IsPlain (understood station_schema arrived_text)
unfolding understood everything
arrived_is = (refl, refl, (refl, refl))

pub arrived_asks : IsQuery arrived_text
unfolding everything
arrived_asks = select_asks arrived_text ((λ s base. refl), (λ s. refl))

abbrev pub posted_text : List ℕ
posted_text = codes "SELECT partner, icn, grp, place, functional, setid, number, at FROM posting ORDER BY at"

abbrev pub posted_shows : List Term
posted_shows = col 1 2 ∷ col 1 3 ∷ col 1 4 ∷ col 1 5 ∷ col 1 6 ∷ col 1 7 ∷ col 1 8 ∷ col 1 0 ∷ []

abbrev pub posted_command : Command
posted_command =
    Select (record { lets = []; body = one_table 8 [] posted_shows by_at })
    (codes "partner" ∷ codes "icn" ∷ codes "grp" ∷ codes "place" ∷ codes "functional" ∷ codes "setid" ∷ codes "number" ∷ codes "at" ∷ [])

pub posted_is : (command_of (understood station_schema posted_text) ≡ posted_command) × (reads_listing station_schema posted_text ≡ false) × IsPlain (understood station_schema posted_text)
unfolding understood everything
posted_is = (refl, refl, (refl, refl))

pub posted_asks : IsQuery posted_text
unfolding everything
posted_asks = select_asks posted_text ((λ s base. refl), (λ s. refl))

abbrev pub pairs_names : List (List ℕ)
pairs_names = codes "partner" ∷ codes "functional" ∷ codes "setid" ∷ codes "lenient" ∷ codes "at" ∷ []

pub pairs_reads : ReadsAll station_schema 1 pairs_shows by_at pairs_names pairs_text
unfolding understood everything
pairs_reads = record {
  is = pairs_is;
  alone = (omega arith, refl);
  typed = λ trees h. elim h [ inl e ↦ (let off : true ≡ false = e.1 in absurd cc) | inr (inl e) ↦ (let off = e.0 in absurd cc) | inr (inr e) ↦ (let off = e.0 in absurd cc) ];
}

abbrev pub sent_names : List (List ℕ)
sent_names = codes "icn" ∷ codes "seq" ∷ codes "partner" ∷ []

pub sent_reads : ReadsAll station_schema 3 sent_shows by_at sent_names sent_text
unfolding understood everything
sent_reads = record {
  is = sent_is;
  alone = (omega arith, refl);
  typed = λ trees h. elim h [ inl e ↦ (let off : true ≡ false = e.1 in absurd cc) | inr (inl e) ↦ (let off = e.0 in absurd cc) | inr (inr e) ↦ (let off = e.0 in absurd cc) ];
}

abbrev pub sets_names : List (List ℕ)
sets_names = codes "grp" ∷ codes "place" ∷ codes "functional" ∷ codes "gcn" ∷ codes "number" ∷ codes "fate" ∷ codes "icn" ∷ codes "at" ∷ []

pub sets_reads : ReadsAll station_schema 4 sets_shows by_at sets_names sets_text
unfolding understood everything
sets_reads = record {
  is = sets_is;
  alone = (omega arith, refl);
  typed = λ trees h. elim h [ inl e ↦ (let off : true ≡ false = e.1 in absurd cc) | inr (inl e) ↦ (let off = e.0 in absurd cc) | inr (inr e) ↦ (let off = e.0 in absurd cc) ];
}

abbrev pub arrived_names : List (List ℕ)
arrived_names = codes "seq" ∷ codes "partner" ∷ codes "icn" ∷ []

pub arrived_reads : ReadsAll station_schema 6 arrived_shows by_at arrived_names arrived_text
unfolding understood everything
arrived_reads = record {
  is = arrived_is;
  alone = (omega arith, refl);
  typed = λ trees h. elim h [ inl e ↦ (let off : true ≡ false = e.1 in absurd cc) | inr (inl e) ↦ (let off = e.0 in absurd cc) | inr (inr e) ↦ (let off = e.0 in absurd cc) ];
}

abbrev pub posted_names : List (List ℕ)
posted_names = codes "partner" ∷ codes "icn" ∷ codes "grp" ∷ codes "place" ∷ codes "functional" ∷ codes "setid" ∷ codes "number" ∷ codes "at" ∷ []

pub posted_reads : ReadsAll station_schema 8 posted_shows by_at posted_names posted_text
unfolding understood everything
posted_reads = record {
  is = posted_is;
  alone = (omega arith, refl);
  typed = λ trees h. elim h [ inl e ↦ (let off : true ≡ false = e.1 in absurd cc) | inr (inl e) ↦ (let off = e.0 in absurd cc) | inr (inr e) ↦ (let off = e.0 in absurd cc) ];
}

pub numbers_reads : ReadsAll station_schema 0 numbers_shows [] numbers_names numbers_text
unfolding understood everything
numbers_reads = record {
  is = numbers_is;
  alone = (omega arith, refl);
  typed = λ trees h. elim h [ inl e ↦ (let off : true ≡ false = e.1 in absurd cc) | inr (inl e) ↦ (let off = e.0 in absurd cc) | inr (inr e) ↦ (let off = e.0 in absurd cc) ];
}

obeys : (db : Database) → ObeysSchema station_schema db → Obeys station_schema db.trees
obeys db h = subst (λ s. Obeys s db.trees) h.schema_is h.sound.obeys

module _ (old new : State) (h : ObeysSchema station_schema old.now) (rows : List Row) where
  pub finds_numbers : Shown numbers_text [] old new rows → (oldest : ℕ) (n : NumbersRow) → AreLastNumbers oldest n rows → FindsNumbers oldest old.now n
  finds_numbers shown oldest n are =
      let got = reads_as numbers_text [] old new station_schema h.schema_is numbers_command numbers_is.0 numbers_is.2 numbers_is.1 rows shown in
      let all = read_rows 0 numbers_shows [] (overlay old.now.trees []) rows (got.answer Null) in
      let rules = obeys old.now h in
      let stored = all_of_both _ _ (old.now.trees 0) (rules.rules Datatype).0 (rules.rules NotNull).0 in
      let kept = subst (IsOneRow (whole (with_id numbers_row (1, n)))) all.2 are.row in
      record { obeys = h; known = are.known; rows = numbers_hold n (old.now.trees 0) all.0 (all_moved _ (old.now.trees 0) all.0 all.1 stored) all.1 kept; few = are.few; parties = are.parties; book = are.book }

  pub finds_agreed : Shown pairs_text [] old new rows → (next : ℕ) → AreAgreed next rows → FindsAgreed old.now next
  finds_agreed shown next are =
      let got = reads_as pairs_text [] old new station_schema h.schema_is pairs_command pairs_is.0 pairs_is.2 pairs_is.1 rows shown in
      let all = read_rows 1 pairs_shows by_at (overlay old.now.trees []) rows (got.answer Null) in
      let rules = obeys old.now h in
      let stored = all_of_both _ _ (old.now.trees 1) (rules.rules Datatype).1.0 (rules.rules NotNull).1.0 in
      let held = agreements_hold next (old.now.trees 1) all.0 rows (all_moved _ (old.now.trees 1) all.0 all.1 stored) all.1 all.2 are in
      record { holds = held.0; kept = held.1 }

  pub finds_submitted : Shown sent_text [] old new rows → (book : Numbers) (xs : List (ℕ × ℕ)) → AreSubmissions book (0, 0) xs rows → FindsSubmitted book old.now xs
  finds_submitted shown book xs are =
      let got = reads_as sent_text [] old new station_schema h.schema_is sent_command sent_is.0 sent_is.2 sent_is.1 rows shown in
      let all = read_rows 3 sent_shows by_at (overlay old.now.trees []) rows (got.answer Null) in
      let rules = obeys old.now h in
      let stored = all_of_both _ _ (old.now.trees 3) (rules.rules Datatype).1.1.0 (rules.rules NotNull).1.1.0 in
      let held = submissions_hold book xs (old.now.trees 3) all.0 rows (all_moved _ (old.now.trees 3) all.0 all.1 stored) all.1 all.2 are in
      record { holds = held.holds; rise = held.rise; used = held.used; numbers = held.numbers }

  pub finds_sets : Shown sets_text [] old new rows → (book : Numbers) (icns : List ℕ) (next : ℕ) → AreSetRows 1 next rows → AreOfAll book 0 icns (map set_read rows) → FindsSets book icns old.now next
  finds_sets shown book icns next are of_all =
      let got = reads_as sets_text [] old new station_schema h.schema_is sets_command sets_is.0 sets_is.2 sets_is.1 rows shown in
      let all = read_rows 4 sets_shows by_at (overlay old.now.trees []) rows (got.answer Null) in
      let rules = obeys old.now h in
      let stored = all_of_both _ _ (old.now.trees 4) (rules.rules Datatype).1.1.1.0 (rules.rules NotNull).1.1.1.0 in
      let held = sets_hold book icns next (old.now.trees 4) all.0 rows (all_moved _ (old.now.trees 4) all.0 all.1 stored) all.1 all.2 are of_all in
      record { rows = held.rows; next_is = held.next_is; wide = held.wide; are = held.are }

  pub finds_arrived : Shown arrived_text [] old new rows → (seqs : List ℕ) → AreArrivals 0 seqs rows → FindsArrived old.now seqs
  finds_arrived shown seqs are =
      let got = reads_as arrived_text [] old new station_schema h.schema_is arrived_command arrived_is.0 arrived_is.2 arrived_is.1 rows shown in
      let all = read_rows 6 arrived_shows by_at (overlay old.now.trees []) rows (got.answer Null) in
      let rules = obeys old.now h in
      let stored = all_of_both _ _ (old.now.trees 6) (rules.rules Datatype).1.1.1.1.0 (rules.rules NotNull).1.1.1.1.0 in
      let held = arrivals_hold seqs (old.now.trees 6) all.0 rows (all_moved _ (old.now.trees 6) all.0 all.1 stored) all.1 all.2 are in
      record { holds = held.holds; rise = held.rise; seqs_are = held.seqs_are }

  pub finds_postings : Shown posted_text [] old new rows → (next : ℕ) → ArePostings 1 next rows → next ≤ 2 ^ 63 → FindsPostings old.now next
  finds_postings shown next are few =
      let got = reads_as posted_text [] old new station_schema h.schema_is posted_command posted_is.0 posted_is.2 posted_is.1 rows shown in
      let all = read_rows 8 posted_shows by_at (overlay old.now.trees []) rows (got.answer Null) in
      let rules = obeys old.now h in
      let stored = all_of_both _ _ (old.now.trees 8) (rules.rules Datatype).1.1.1.1.1.0 (rules.rules NotNull).1.1.1.1.1.0 in
      let held = postings_hold next (old.now.trees 8) all.0 rows (all_moved _ (old.now.trees 8) all.0 all.1 stored) all.1 all.2 are few in
      record { holds = held.holds; next_is = held.next_is }
