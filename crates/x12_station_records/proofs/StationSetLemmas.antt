-- The table of a station's submitted transaction sets.
use Rattle.std.proofs.Common.{if◌then◌else◌, ◌≡◌, ◌++◌, ◌==◌, ℕ, pos, [], ◌∷◌, map, Ok, refl, sym, ap, subst, ◌∙◌, arith, IsPermutation, List, Bool, true, false}
use Rattle.std.specs.List.{enumerate_from, AllByRecursion}
use Rattle.sqlite.specs.declared.types.Value.TheVariants.{Int, Blob}
use Rattle.sqlite.specs.Cast.{cast_row}
use Rattle.sqlite.specs.Order.{Row}
use Rattle.sqlite.specs.State.{State, Executes}
use Rattle.sql_rows.specs.Keyed.{AreRows, with_id}
use Rattle.sql_rows.proofs.Tests.{int_test, cast_int, cast_null}
use Rattle.sql_rows.proofs.Statements.{adds, changes}
use Rattle.x12_acks.specs.Submission.{TransactionSetKey}
use Rattle.x12_outbound.specs.declared.fate.Fate.{Fate}
use Rattle.x12_station.specs.Stored.{Stored, StoredSet, is_row_of}
use Rattle.x12_station.specs.Plan.{row_settled}
use Rattle.x12_numbers.proofs.Shelf.{enumerate_push, all_and_one}
use Rattle.x12_tables.proofs.KeyLemmas.{places_rise}
use Rattle.x12_station_records.proofs.StationCompile.{enter_set_text, enter_set_terms, enter_set_is, settle_is, settle_shows, settle_text, settle_wheres}
use Rattle.x12_station_records.proofs.StationFindLemmas.{three}
use Rattle.x12_station_records.proofs.StationListLemmas.{steps_are, behind_all, as_many}
use Rattle.x12_station_records.proofs.StationTableLemmas.{outset_is_free, with_sets}
use Rattle.x12_station_records.specs.StationChange.{HasNextSet, with_stored_set, with_stored_fate, SetsOnce}
use Rattle.x12_station_records.specs.StationSchema.{outset, station_schema}
use Rattle.x12_station_records.specs.StationTables.{fate_number, row_of_set, IsWideSet, HasTables}

abbrev pub set_params : ℕ → StoredSet → Row
set_params at t =
    Int (pos at) ∷ Int (pos t.icn) ∷ Int (pos t.group) ∷ Int (pos t.set) ∷ Int (pos t.gcn) ∷ Int (pos (fate_number t.fate)) ∷ Blob t.functional ∷ Blob t.number ∷ []

abbrev pub fate_params : TransactionSetKey → Fate → Row
fate_params k fate = Int (pos k.icn) ∷ Int (pos k.group) ∷ Int (pos k.set) ∷ Int (pos (fate_number fate)) ∷ []

casts : (x : ℕ × StoredSet) → cast_row (outset 4) (with_id row_of_set x) ≡ with_id row_of_set x
casts x = rw (cast_int x.0, cast_null, cast_int x.1.icn, cast_int x.1.group, cast_int x.1.set, cast_int x.1.gcn, cast_int (fate_number x.1.fate)) refl

-- a fate has no width
settled_wide : (k : TransactionSetKey) (fate : Fate) (ts : List StoredSet) → AllByRecursion IsWideSet ts → AllByRecursion IsWideSet (map (row_settled k fate) ts)
settled_wide k fate [] all = tt
settled_wide k fate (t ∷ ts) all = (one (is_row_of k t), settled_wide k fate ts all.1)
  where
    one : (b : Bool) → IsWideSet (if b then record t { fate = fate } else t)
    one true = record { functional = all.0.functional; number = all.0.number }
    one false = all.0

module _ (old new : State) (count bound : ℕ) (s : Stored) (has : HasTables bound old.now s) where
  pub enters : (at : ℕ) (t : StoredSet) → IsWideSet t → HasNextSet at s → Executes enter_set_text (set_params at t) old new (Ok count) → HasTables bound new.now (with_stored_set t s)
  enters at t wide next h =
      let is : enumerate_from 1 (s.sets ++ t ∷ []) ≡ enumerate_from 1 s.sets ++ (at, t) ∷ [] = enumerate_push 1 s.sets t ∙ ap (λ k. enumerate_from 1 s.sets ++ (k, t) ∷ []) (sym next) in
      let moved : IsPermutation ((at, t) ∷ enumerate_from 1 s.sets) (enumerate_from 1 (s.sets ++ t ∷ [])) = subst (IsPermutation ((at, t) ∷ enumerate_from 1 s.sets)) (sym is) (behind_all (at, t) (enumerate_from 1 s.sets)) in
      let did = adds enter_set_text (set_params at t) old new station_schema has.schema 3 (outset 4) refl outset_is_free enter_set_is.1 (λ db. refl) row_of_set (enumerate_from 1 s.sets) has.sets
      enter_set_terms 9 (at, t) (enumerate_from 1 (s.sets ++ t ∷ [])) refl refl (casts (at, t)) enter_set_is.0 count h moved (places_rise 0 1 (s.sets ++ t ∷ []) (omega arith)) in
      with_sets bound s old new has did.1 (s.sets ++ t ∷ []) did.0 (all_and_one IsWideSet s.sets t has.wide wide)

  pub settles : (k : TransactionSetKey) (fate : Fate) → SetsOnce s → Executes settle_text (fate_params k fate) old new (Ok count) → HasTables bound new.now (with_stored_fate k fate s)
  settles k fate once h =
      let upd : StoredSet → StoredSet = λ t. record t { fate = fate } in
      let did = changes settle_text (fate_params k fate) old new station_schema has.schema 3 (outset 4) refl outset_is_free settle_is.1 (λ db. refl) row_of_set (enumerate_from 1 s.sets) has.sets
      settle_wheres settle_shows (is_row_of k) upd (λ x. rw (int_test x.1.icn k.icn, int_test x.1.group k.group, int_test x.1.set k.set) (three (x.1.icn == k.icn) (x.1.group == k.group) (x.1.set == k.set)))
      (λ x. refl) casts (omega (arith, once k, as_many (is_row_of k) 1 s.sets)) settle_is.0 count h in
      with_sets bound s old new has did.1 (map (row_settled k fate) s.sets) (subst (λ at. AreRows row_of_set at (new.now.trees 4)) (steps_are (is_row_of k) upd 1 s.sets) did.0) (settled_wide k fate s.sets has.wide)
