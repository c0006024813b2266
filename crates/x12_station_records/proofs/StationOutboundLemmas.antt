-- The look-up of a submission's bytes.
use Rattle.std.proofs.Common.{◌≡◌, ◌==◌, ℕ, pos, List, [], ◌∷◌, codes, map, find, Bool, false, option_map, refl, ap, ◌∙◌, arith}
use Rattle.std.specs.Option.{option_to_list}
use Rattle.sqlite.specs.Command.TheVariants.{Select}
use Rattle.sqlite.specs.Listing.{understood, reads_listing}
use Rattle.sqlite.specs.declared.types.Value.TheVariants.{Int}
use Rattle.sqlite.specs.Order.{Row}
use Rattle.sqlite.specs.State.{State, Shown}
use Rattle.sqlite.specs.Term.{Term, col}
use Rattle.sqlite.proofs.Callers.{IsPlain, command_of}
use Rattle.sqlite_tied.specs.Compute.{everything}
use Rattle.sql_rows.proofs.Selects.{one_table}
use Rattle.sql_rows.proofs.Tests.{int_test, one_and}
use Rattle.sql_rows.specs.Query.{IsQuery}
use Rattle.sql_rows.proofs.Queries.{select_asks}
use Rattle.x12_station.specs.Stored.{Stored, StoredSubmission, submitted_bytes}
use Rattle.x12_tables.proofs.KeyLemmas.{is}
use Rattle.x12_station_records.proofs.StationAsks.{find_numbered, many_numbered, finds_key, over}
use Rattle.x12_station_records.specs.StationFinds.{SubmittedOnce, bytes_shown}
use Rattle.x12_station_records.specs.StationSchema.{station_schema}
use Rattle.x12_station_records.specs.StationTables.{by_icn, HasTables, submission_row}

abbrev pub bytes_text : List ℕ
bytes_text = codes "SELECT bytes FROM outbound WHERE icn = ?1"

abbrev bytes_wheres : List Term
bytes_wheres = is 0 0 ∷ []

abbrev bytes_shows : List Term
bytes_shows = col 1 4 ∷ []

pub bytes_is : (command_of (understood station_schema bytes_text) ≡ Select (record { lets = []; body = one_table 3 bytes_wheres bytes_shows [] }) (codes "bytes" ∷ [])) × (reads_listing station_schema bytes_text ≡ false) × IsPlain (understood station_schema bytes_text)
unfolding understood everything
bytes_is = (refl, refl, (refl, refl))

pub bytes_asks : IsQuery bytes_text
unfolding everything
bytes_asks = select_asks bytes_text ((λ s base. refl), (λ s. refl))

module _ (icn : ℕ) where
  abbrev keyed : ℕ × StoredSubmission → Bool
  keyed x = x.0 == icn

  abbrev numbered : StoredSubmission → Bool
  numbered r = r.icn == icn

  pub finds_bytes : (old new : State) (rows : List Row) (next : ℕ) (s : Stored) → SubmittedOnce s → HasTables next old.now s → Shown bytes_text (Int (pos icn) ∷ []) old new rows
      → rows ≡ option_to_list (option_map bytes_shown (submitted_bytes s icn))
  finds_bytes old new rows next s once has h =
      finds_key bytes_text (Int (pos icn) ∷ []) old new has.schema 3 bytes_wheres bytes_shows (codes "bytes" ∷ []) bytes_is submission_row (map by_icn s.submitted) has.submitted.same keyed (λ (x : ℕ × StoredSubmission). bytes_shown x.1.bytes)
      (λ x. rw (int_test x.0 icn) (one_and (x.0 == icn))) (λ x. refl) (omega (arith, once icn, many_numbered (λ (r : StoredSubmission). r.icn) icn s.submitted)) rows h
      ∙ ap option_to_list (find_numbered (λ (r : StoredSubmission). r.icn) (λ (r : StoredSubmission). bytes_shown r.bytes) icn s.submitted ∙ over bytes_shown (λ (r : StoredSubmission). r.bytes) (find numbered s.submitted))
