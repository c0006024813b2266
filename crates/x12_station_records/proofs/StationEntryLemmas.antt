-- A submission as the queries read it.
use Rattle.std.proofs.Common.{◌≡◌, ◌+◌, ◌==◌, ℕ, pos, List, [], ◌∷◌, codes, length, map, filter, find, Bool, true, false, Option, Some, None, option_map, refl, sym, ap, ◌∙◌, inl, inr, arith}
use Rattle.std.specs.List.{AllByRecursion, enumerate_from}
use Rattle.std.specs.Option.{option_to_list}
use Rattle.std.proofs.lemmas.Bool.{cases_Bool}
use Rattle.std.proofs.lemmas.Bool.Decides.{nat_tests}
use Rattle.sqlite.specs.Command.TheVariants.{Select}
use Rattle.sqlite.specs.Listing.{understood, reads_listing}
use Rattle.sqlite.specs.declared.types.Value.TheVariants.{Int, Blob}
use Rattle.sqlite.specs.Order.{Row}
use Rattle.sqlite.specs.State.{State, Shown}
use Rattle.sqlite.specs.Term.{Term, col}
use Rattle.sqlite.proofs.Callers.{IsPlain, command_of}
use Rattle.sqlite_tied.specs.Compute.{everything}
use Rattle.sql_rows.proofs.Selects.{one_table}
use Rattle.sql_rows.proofs.Tests.{int_test, one_and}
use Rattle.sql_rows.specs.Query.{IsQuery}
use Rattle.sql_rows.proofs.Queries.{select_asks}
use Rattle.x12_numbers.proofs.Shelf.{found_passes}
use Rattle.x12_outbound.specs.Entry.{InterchangeRow, GroupRow}
use Rattle.x12_station.specs.Record.{IsWholeEntry}
use Rattle.x12_station.specs.Stored.{Stored, StoredSubmission, StoredSet, IsSound, entries, entry_of_row, groups_of_rows, sets_under, rows_of_entry}
use Rattle.x12_station.proofs.EntryLemmas.{groups_back}
use Rattle.x12_tables.proofs.KeyLemmas.{is}
use Rattle.x12_tables.proofs.PartyLemmas.{party_back}
use Rattle.x12_tables.specs.Party.{IsWideParty, bytes_of_party}
use Rattle.x12_station_records.proofs.StationAsks.{finds_key}
use Rattle.x12_station_records.proofs.StationContentLemmas.{fate_back}
use Rattle.x12_station_records.proofs.StationListings.{by_at, lists_some}
use Rattle.x12_station_records.proofs.StationSoundLemmas.{submitted_once}
use Rattle.x12_station_records.specs.StationEntries.{entry_numbered, first_head, head_numbered, head_of, SubmissionHead}
use Rattle.x12_station_records.specs.StationGroups.{rows_of_groups, set_shown, AreWhole}
use Rattle.x12_station_records.specs.StationSchema.{station_schema}
use Rattle.x12_station_records.specs.StationTables.{row_of_set, HasTables, submission_row, by_icn, fate_number}

abbrev pub head_text : List ℕ
head_text = codes "SELECT partner, bytes FROM outbound WHERE icn = ?1"

abbrev head_wheres : List Term
head_wheres = is 0 0 ∷ []

abbrev head_shows : List Term
head_shows = col 1 3 ∷ col 1 4 ∷ []

pub head_is : (command_of (understood station_schema head_text) ≡ Select (record { lets = []; body = one_table 3 head_wheres head_shows [] }) (codes "partner" ∷ codes "bytes" ∷ [])) × (reads_listing station_schema head_text ≡ false) × IsPlain (understood station_schema head_text)
unfolding understood everything
head_is = (refl, refl, (refl, refl))

pub head_asks : IsQuery head_text
unfolding everything
head_asks = select_asks head_text ((λ s base. refl), (λ s. refl))

abbrev pub sets_text : List ℕ
sets_text = codes "SELECT grp, place, functional, gcn, number, fate FROM outset WHERE icn = ?1 ORDER BY at"

abbrev sets_wheres : List Term
sets_wheres = is 2 0 ∷ []

abbrev sets_shows : List Term
sets_shows = col 1 3 ∷ col 1 4 ∷ col 1 6 ∷ col 1 5 ∷ col 1 7 ∷ col 1 8 ∷ []

abbrev sets_names : List (List ℕ)
sets_names = codes "grp" ∷ codes "place" ∷ codes "functional" ∷ codes "gcn" ∷ codes "number" ∷ codes "fate" ∷ []

pub sets_are : (command_of (understood station_schema sets_text) ≡ Select (record { lets = []; body = one_table 4 sets_wheres sets_shows by_at }) sets_names) × (reads_listing station_schema sets_text ≡ false) × IsPlain (understood station_schema sets_text)
unfolding understood everything
sets_are = (refl, refl, (refl, refl))

pub sets_asks : IsQuery sets_text
unfolding everything
sets_asks = select_asks sets_text ((λ s base. refl), (λ s. refl))

module _ (icn : ℕ) where
  abbrev keyed : ℕ × StoredSubmission → Bool
  keyed x = x.0 == icn

  abbrev numbered : StoredSubmission → Bool
  numbered r = r.icn == icn

  abbrev head_row : StoredSubmission → Row
  head_row r = Blob (bytes_of_party r.receiver) ∷ Blob r.bytes ∷ []

  many_by_key : (rs : List StoredSubmission) → length (filter keyed (map by_icn rs)) ≡ length (filter numbered rs)
  many_by_key [] = refl
  many_by_key (r ∷ rs) = elim (cases_Bool (r.icn == icn)) [
    | inl yes1 ↦ rw (yes1, many_by_key rs) refl
    | inr no1 ↦ rw (no1, many_by_key rs) refl
  ]

  first_by_key : (rs : List StoredSubmission) → AllByRecursion (λ r. IsWideParty r.receiver) rs → first_head (option_to_list (option_map (λ (x : ℕ × StoredSubmission). head_row x.1) (find keyed (map by_icn rs)))) ≡ option_map head_of (find numbered rs)
  first_by_key [] h = refl
  first_by_key (r ∷ rs) h = elim (cases_Bool (r.icn == icn)) [
    | inl yes1 ↦ rw (yes1, party_back r.receiver h.0) refl
    | inr no1 ↦ rw no1 (first_by_key rs h.1)
  ]

  pub finds_head : (old new : State) (next : ℕ) (rows : List Row) (s : Stored) → IsSound s → HasTables next old.now s → Shown head_text (Int (pos icn) ∷ []) old new rows → first_head rows ≡ head_numbered s icn
  finds_head old new next rows s sound has h =
      ap first_head (finds_key head_text (Int (pos icn) ∷ []) old new has.schema 3 head_wheres head_shows (codes "partner" ∷ codes "bytes" ∷ []) head_is submission_row (map by_icn s.submitted) has.submitted.same keyed (λ (x : ℕ × StoredSubmission). head_row x.1)
      (λ x. rw (int_test x.0 icn) (one_and (x.0 == icn))) (λ x. refl) (omega (arith, submitted_once s sound icn, many_by_key s.submitted)) rows h)
      ∙ first_by_key s.submitted has.submitted.parties

  abbrev of_it : ℕ × StoredSet → Bool
  of_it x = x.1.icn == icn

  abbrev shown_set : ℕ × StoredSet → Row
  shown_set x = Int (pos x.1.group) ∷ Int (pos x.1.set) ∷ Blob x.1.functional ∷ Int (pos x.1.gcn) ∷ Blob x.1.number ∷ Int (pos (fate_number x.1.fate)) ∷ []

  set_back : (n : ℕ) (t : StoredSet) → (t.icn == icn) ≡ true → set_shown icn (shown_set (n, t)) ≡ t
  set_back n t same = let e : icn ≡ t.icn = grind (arith, nat_tests, same) in rw (e, fate_back t.fate) refl

  sets_back : (n : ℕ) (ts : List StoredSet) → map (set_shown icn) (map shown_set (filter of_it (enumerate_from n ts))) ≡ sets_under icn ts
  sets_back n [] = refl
  sets_back n (t ∷ ts) = elim (cases_Bool (t.icn == icn)) [
    | inl yes1 ↦ rw (yes1, set_back n t yes1, sets_back (n + 1) ts) refl
    | inr no1 ↦ rw no1 (sets_back (n + 1) ts)
  ]

  pub loads_sets : (old new : State) (next : ℕ) (rows : List Row) (s : Stored) → HasTables next old.now s → Shown sets_text (Int (pos icn) ∷ []) old new rows → map (set_shown icn) rows ≡ sets_under icn s.sets
  loads_sets old new next rows s has h =
      ap (map (set_shown icn)) (lists_some sets_text (Int (pos icn) ∷ []) old new has.schema 4 sets_wheres sets_shows sets_names sets_are row_of_set (enumerate_from 1 s.sets) has.sets of_it shown_set (λ x. rw (int_test x.1.icn icn) (one_and (x.1.icn == icn))) (λ x. refl) rows h)
      ∙ sets_back 1 s.sets

  -- a submission with its transaction sets is found as it is without them
  entry_found : (sets : List StoredSet) (rs : List StoredSubmission) → find (λ (e : InterchangeRow). e.icn == icn) (map (entry_of_row sets) rs) ≡ option_map (entry_of_row sets) (find numbered rs)
  entry_found sets [] = refl
  entry_found sets (r ∷ rs) = elim (cases_Bool (r.icn == icn)) [
    | inl yes1 ↦ rw yes1 refl
    | inr no1 ↦ rw no1 (entry_found sets rs)
  ]

  numbered_is : (s : Stored) → entry_numbered s icn ≡ option_map (entry_of_row s.sets) (find numbered s.submitted)
  unfolding entries
  numbered_is s = entry_found s.sets s.submitted

  pub no_entry : (s : Stored) → None ≡ head_numbered s icn → None ≡ entry_numbered s icn
  no_entry s h = by (find numbered s.submitted) h ∙ sym (numbered_is s)
    where
      by : (o : Option StoredSubmission) → None ≡ option_map head_of o → None ≡ option_map (entry_of_row s.sets) o
      by None h = refl
      by (Some r) h = absurd cc

  -- groups that have these rows are those of the entry
  same_groups : (sets : List StoredSet) (r : StoredSubmission) (gs : List GroupRow) → rows_of_groups icn gs ≡ sets_under icn sets → AreWhole gs → groups_of_rows (sets_under icn sets) ≡ gs
  unfolding rows_of_entry
  same_groups sets r gs rows whole =
      let e : InterchangeRow = record { icn = icn; receiver = r.receiver; bytes = r.bytes; groups = gs } in
      let all : IsWholeEntry e = record { laid = whole.laid; sets = whole.sets } in
      ap groups_of_rows (sym rows) ∙ groups_back e all

  pub entry_back : (s : Stored) (h : SubmissionHead) (gs : List GroupRow) → Some h ≡ head_numbered s icn → rows_of_groups icn gs ≡ sets_under icn s.sets → AreWhole gs
      → Some (record { icn = icn; receiver = h.receiver; bytes = h.bytes; groups = gs }) ≡ entry_numbered s icn
  entry_back s h gs found rows whole = by (find numbered s.submitted) refl found ∙ sym (numbered_is s)
    where
      by : (o : Option StoredSubmission) → find numbered s.submitted ≡ o → Some h ≡ option_map head_of o → Some (record { icn = icn; receiver = h.receiver; bytes = h.bytes; groups = gs }) ≡ option_map (entry_of_row s.sets) o
      by None is found = absurd cc
      by (Some r) is found =
          let head : h ≡ head_of r = cc in
          let passes = (found_passes numbered s.submitted r is).1 in
          let number : icn ≡ r.icn = grind (arith, nat_tests, passes) in
          let groups : gs ≡ groups_of_rows (sets_under r.icn s.sets) = sym (same_groups s.sets r gs rows whole) ∙ ap (λ n. groups_of_rows (sets_under n s.sets)) number in
          rw (head, number, groups) refl
