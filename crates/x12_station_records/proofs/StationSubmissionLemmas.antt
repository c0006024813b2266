-- The table of a station's submissions.
use Rattle.std.proofs.Common.{◌≡◌, ◌++◌, ℕ, pos, [], ◌∷◌, map, Ok, refl, sym, subst, IsPermutation, ◌<◌}
use Rattle.std.proofs.lemmas.List.{map-append}
use Rattle.sqlite.specs.declared.types.Value.TheVariants.{Int, Blob}
use Rattle.sqlite.specs.Order.{Row}
use Rattle.sqlite.specs.State.{State, Executes}
use Rattle.sql_rows.proofs.Tests.{cast_int, cast_null}
use Rattle.x12_station.specs.Stored.{Stored, StoredSubmission}
use Rattle.x12_numbers.proofs.Shelf.{all_and_one}
use Rattle.x12_tables.specs.Party.{bytes_of_party, IsWideParty}
use Rattle.x12_station_records.proofs.StationCompile.{submit_text, submit_is, submit_terms}
use Rattle.x12_station_records.proofs.StationInserts.{puts_row}
use Rattle.x12_station_records.proofs.StationListLemmas.{behind_all}
use Rattle.x12_station_records.proofs.StationTableLemmas.{outbound_is_free, with_submitted}
use Rattle.x12_station_records.specs.StationChange.{RisesByNumber, with_submission}
use Rattle.x12_station_records.specs.StationSchema.{outbound, station_schema}
use Rattle.x12_station_records.specs.StationTables.{by_icn, HasTables, submission_row}

abbrev pub submission_params : StoredSubmission → Row
submission_params r = Int (pos r.icn) ∷ Int (pos r.seq) ∷ Blob (bytes_of_party r.receiver) ∷ Blob r.bytes ∷ []

pub submits : (old new : State) (count next : ℕ) (s : Stored) → HasTables next old.now s → (r : StoredSubmission) → 0 < r.icn → IsWideParty r.receiver → RisesByNumber r s → Executes submit_text (submission_params r) old new (Ok count)
    → HasTables next new.now (with_submission r s)
submits old new count next s has r used two rise h =
    let at = map by_icn s.submitted in
    let is : map by_icn (s.submitted ++ r ∷ []) ≡ at ++ by_icn r ∷ [] = map-append by_icn s.submitted (r ∷ []) in
    let moved : IsPermutation (by_icn r ∷ at) (map by_icn (s.submitted ++ r ∷ [])) = subst (IsPermutation (by_icn r ∷ at)) (sym is) (behind_all (by_icn r) at) in
    let did = puts_row submit_text (submission_params r) old new station_schema has.schema 2 (outbound 3) refl outbound_is_free submit_is.1 submission_row at has.submitted.same
    submit_terms 5 (by_icn r) (map by_icn (s.submitted ++ r ∷ [])) refl refl (rw (cast_int r.icn, cast_null, cast_int r.seq) refl) submit_is.0 count h moved in
    with_submitted next s old new has did.1 (s.submitted ++ r ∷ []) (record { same = did.0; rise = rise; numbered = all_and_one (λ r. 0 < r.icn) s.submitted r has.submitted.numbered used; parties = all_and_one (λ r. IsWideParty r.receiver) s.submitted r has.submitted.parties two })
