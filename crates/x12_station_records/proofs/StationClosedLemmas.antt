-- Closed submissions, found by their number and by that of a group.
use Rattle.std.proofs.Common.{◌≡◌, ◌≤◌, ◌+◌, ◌==◌, ◌&&◌, ℕ, pos, List, [], ◌∷◌, codes, length, map, filter, find, Bool, true, false, Some, None, option_and_then, refl, sym, ap, ◌∙◌, inl, inr, arith}
use Rattle.std.specs.List.{enumerate_from}
use Rattle.std.proofs.lemmas.Bool.{cases_Bool, and_parts}
use Rattle.sqlite.specs.Command.TheVariants.{Select}
use Rattle.sqlite.specs.Listing.{understood, reads_listing}
use Rattle.sqlite.specs.declared.types.Value.TheVariants.{Int}
use Rattle.sqlite.specs.Order.{Row}
use Rattle.sqlite.specs.State.{State, Shown}
use Rattle.sqlite.specs.Term.{Term, col}
use Rattle.sqlite.proofs.Callers.{IsPlain, command_of}
use Rattle.sqlite_tied.specs.Compute.{everything}
use Rattle.sql_rows.proofs.Selects.{one_table}
use Rattle.sql_rows.proofs.Tests.{int_test, one_and}
use Rattle.sql_rows.specs.Query.{IsQuery}
use Rattle.sql_rows.proofs.Queries.{select_asks}
use Rattle.x12_numbers.proofs.Shelf.{found_passes}
use Rattle.x12_outbound.specs.Entry.{InterchangeRow}
use Rattle.x12_station.specs.Memory.{only_if}
use Rattle.x12_station.specs.Stored.{Stored, StoredSubmission, StoredSet, IsSound, entries, entry_of_row, closed_entry}
use Rattle.x12_tables.proofs.KeyLemmas.{is}
use Rattle.x12_station_records.proofs.FirstLemmas.{first_number}
use Rattle.x12_station_records.proofs.StationAsks.{empty}
use Rattle.x12_station_records.proofs.StationListings.{by_at, lists_some}
use Rattle.x12_station_records.proofs.StationSoundLemmas.{submitted_once}
use Rattle.x12_station_records.specs.StationClosed.{number_of_group, is_closed}
use Rattle.x12_station_records.specs.StationEntries.{entry_numbered}
use Rattle.x12_station_records.specs.StationSchema.{station_schema}
use Rattle.x12_station_records.specs.StationTables.{row_of_set, HasTables}

abbrev pub number_text : List ℕ
number_text = codes "SELECT icn FROM outset WHERE gcn = ?1 ORDER BY at"

abbrev number_wheres : List Term
number_wheres = is 5 0 ∷ []

abbrev number_shows : List Term
number_shows = col 1 2 ∷ []

pub number_is : (command_of (understood station_schema number_text) ≡ Select (record { lets = []; body = one_table 4 number_wheres number_shows by_at }) (codes "icn" ∷ [])) × (reads_listing station_schema number_text ≡ false) × IsPlain (understood station_schema number_text)
unfolding understood everything
number_is = (refl, refl, (refl, refl))

pub number_asks : IsQuery number_text
unfolding everything
number_asks = select_asks number_text ((λ s base. refl), (λ s. refl))

module _ (gcn : ℕ) where
  abbrev of_group : ℕ × StoredSet → Bool
  of_group x = x.1.gcn == gcn

  abbrev number_row : ℕ × StoredSet → Row
  number_row x = Int (pos x.1.icn) ∷ []

  first_of : (n : ℕ) (ts : List StoredSet) → first_number (map number_row (filter of_group (enumerate_from n ts))) ≡ number_of_group ts gcn
  first_of n [] = refl
  first_of n (t ∷ ts) = elim (cases_Bool (t.gcn == gcn)) [
    | inl yes1 ↦ rw yes1 refl
    | inr no1 ↦ rw no1 (first_of (n + 1) ts)
  ]

  pub finds_number : (old new : State) (next : ℕ) (rows : List Row) (s : Stored) → HasTables next old.now s → Shown number_text (Int (pos gcn) ∷ []) old new rows → first_number rows ≡ number_of_group s.sets gcn
  finds_number old new next rows s has h =
      ap first_number (lists_some number_text (Int (pos gcn) ∷ []) old new has.schema 4 number_wheres number_shows (codes "icn" ∷ []) number_is row_of_set (enumerate_from 1 s.sets) has.sets of_group number_row (λ x. rw (int_test x.1.gcn gcn) (one_and (x.1.gcn == gcn))) (λ x. refl) rows h)
      ∙ first_of 1 s.sets

-- Where at most one passes a test, what passes a narrower test is found through it.
module _ {X : Type 0} where
  none_narrow : (p q : X → Bool) → ((x : X) → p x ≡ true → q x ≡ true) → (xs : List X) → filter q xs ≡ [] → find p xs ≡ None
  none_narrow p q narrow [] h = refl
  none_narrow p q narrow (x ∷ xs) h = elim (cases_Bool (q x)) [
    | inl yes1 ↦ absurd (let e = rw yes1 at h in cc)
    | inr no1 ↦ elim (cases_Bool (p x)) [
      | inl yes2 ↦ absurd (let e = sym (narrow x yes2) ∙ no1 in cc)
      | inr no2 ↦ rw no2 (none_narrow p q narrow xs (rw no1 at h))
    ]
  ]

  pub narrowed : (p q : X → Bool) → ((x : X) → p x ≡ true → q x ≡ true) → (xs : List X) → length (filter q xs) ≤ 1 → find p xs ≡ option_and_then (only_if p) (find q xs)
  narrowed p q narrow [] low = refl
  narrowed p q narrow (x ∷ xs) low = elim (cases_Bool (q x)) [
    | inl yes1 ↦ (let short : length (filter q xs) ≤ 0 = omega (arith, rw yes1 at low) in
        elim (cases_Bool (p x)) [
          | inl yes2 ↦ rw (yes1, yes2) refl
          | inr no2 ↦ rw (yes1, no2, none_narrow p q narrow xs (empty (filter q xs) short)) refl
        ])
    | inr no1 ↦ elim (cases_Bool (p x)) [
      | inl yes2 ↦ absurd (let e = sym (narrow x yes2) ∙ no1 in cc)
      | inr no2 ↦ rw (no1, no2) (narrowed p q narrow xs (rw no1 at low))
    ]
  ]

  only_same : (p q : X → Bool) (x : X) → p x ≡ q x → only_if p x ≡ only_if q x
  only_same p q x same = rw same refl

-- no number is that of two submissions
module _ (icn : ℕ) where
  abbrev numbered : InterchangeRow → Bool
  numbered e = e.icn == icn

  abbrev numbered_closed : InterchangeRow → Bool
  numbered_closed e = e.icn == icn && is_closed e

  as_many : (sets : List StoredSet) (rs : List StoredSubmission) → length (filter numbered (map (entry_of_row sets) rs)) ≡ length (filter (λ (r : StoredSubmission). r.icn == icn) rs)
  as_many sets [] = refl
  as_many sets (r ∷ rs) = elim (cases_Bool (r.icn == icn)) [
    | inl yes1 ↦ rw (yes1, as_many sets rs) refl
    | inr no1 ↦ rw (no1, as_many sets rs) refl
  ]

  pub one_numbered : (s : Stored) → IsSound s → length (filter numbered (entries s)) ≤ 1
  unfolding entries
  one_numbered s sound = omega (arith, as_many s.sets s.submitted, submitted_once s sound icn)

  pub closed_is : (s : Stored) → IsSound s → closed_entry s icn ≡ option_and_then (only_if numbered_closed) (entry_numbered s icn)
  closed_is s sound = narrowed numbered_closed numbered (λ e h. (and_parts (e.icn == icn) (is_closed e) h).0) (entries s) (one_numbered s sound)

  pub one_closed : (s : Stored) → IsSound s → (e : InterchangeRow) → Some e ≡ entry_numbered s icn → only_if is_closed e ≡ closed_entry s icn
  one_closed s sound e found =
      let passes = (found_passes numbered (entries s) e (sym found)).1 in
      only_same is_closed numbered_closed e (rw passes refl) ∙ ap (option_and_then (only_if numbered_closed)) found ∙ sym (closed_is s sound)

  pub none_closed : (s : Stored) → IsSound s → None ≡ entry_numbered s icn → None ≡ closed_entry s icn
  none_closed s sound found = ap (option_and_then (only_if numbered_closed)) found ∙ sym (closed_is s sound)
