-- The look-ups of a submission and of a first arrival by their number in the history.
use Rattle.std.proofs.Common.{◌≡◌, ◌≤◌, ◌==◌, ℕ, pos, List, [], ◌∷◌, codes, length, map, filter, find, false, Option, Some, None, option_map, refl, sym, ap, subst, ◌∙◌, arith}
use Rattle.std.specs.Option.{option_or, option_to_list}
use Rattle.sqlite.specs.Command.TheVariants.{Select}
use Rattle.sqlite.specs.Listing.{understood, reads_listing}
use Rattle.sqlite.specs.declared.types.Value.TheVariants.{Int}
use Rattle.sqlite.specs.Order.{Row}
use Rattle.sqlite.specs.State.{State, Shown}
use Rattle.sqlite.specs.Term.{Term, col}
use Rattle.sqlite.proofs.Callers.{IsPlain, command_of}
use Rattle.sqlite_tied.specs.Compute.{everything}
use Rattle.sql_rows.proofs.Selects.{one_table}
use Rattle.sql_rows.proofs.Tests.{int_test, one_and}
use Rattle.sql_rows.specs.Query.{IsQuery}
use Rattle.sql_rows.proofs.Queries.{select_asks}
use Rattle.x12_numbers.proofs.Shelf.{some_inj}
use Rattle.x12_profile.specs.Edition.{Marks}
use Rattle.x12_station.specs.Durable.{item_at, item_of_arrival}
use Rattle.x12_station.specs.History.{Submitted}
use Rattle.x12_station.specs.Stored.{Stored, StoredSubmission, StoredArrival, IsSound, marks_of}
use Rattle.x12_tables.proofs.KeyLemmas.{is}
use Rattle.x12_station_records.proofs.StationAskedLemmas.{submission_asked, arrival_asked}
use Rattle.x12_station_records.proofs.StationAsks.{behind_number, over, find_numbered, many_numbered, finds_one, finds_key}
use Rattle.x12_station_records.proofs.StationSoundLemmas.{one_low}
use Rattle.x12_station_records.specs.StationFinds.{asked_as, submission_numbered, arrival_numbered, filed_shown, bytes_shown, kept_of, item_kept}
use Rattle.x12_station_records.specs.StationSchema.{station_schema}
use Rattle.x12_station_records.specs.StationTables.{by_seq, HasTables, arrival_row, submission_row, by_icn}

abbrev pub sent_text : List ℕ
sent_text = codes "SELECT bytes FROM outbound WHERE seq = ?1"

abbrev sent_wheres : List Term
sent_wheres = is 2 0 ∷ []

abbrev sent_shows : List Term
sent_shows = col 1 4 ∷ []

pub sent_is : (command_of (understood station_schema sent_text) ≡ Select (record { lets = []; body = one_table 3 sent_wheres sent_shows [] }) (codes "bytes" ∷ [])) × (reads_listing station_schema sent_text ≡ false) × IsPlain (understood station_schema sent_text)
unfolding understood everything
sent_is = (refl, refl, (refl, refl))

pub sent_asks : IsQuery sent_text
unfolding everything
sent_asks = select_asks sent_text ((λ s base. refl), (λ s. refl))

abbrev pub came_text : List ℕ
came_text = codes "SELECT bytes, reply FROM inbound WHERE seq = ?1"

abbrev came_wheres : List Term
came_wheres = is 0 0 ∷ []

abbrev came_shows : List Term
came_shows = col 1 5 ∷ col 1 4 ∷ []

pub came_is : (command_of (understood station_schema came_text) ≡ Select (record { lets = []; body = one_table 6 came_wheres came_shows [] }) (codes "bytes" ∷ codes "reply" ∷ [])) × (reads_listing station_schema came_text ≡ false) × IsPlain (understood station_schema came_text)
unfolding understood everything
came_is = (refl, refl, (refl, refl))

pub came_asks : IsQuery came_text
unfolding everything
came_asks = select_asks came_text ((λ s base. refl), (λ s. refl))

module _ (n : ℕ) (old new : State) (rows : List Row) (next : ℕ) (s : Stored) (sound : IsSound s) (has : HasTables next old.now s) where
  abbrev key : ℕ
  key = asked_as n

  pub finds_sent : Shown sent_text (Int (pos key) ∷ []) old new rows → rows ≡ option_to_list (option_map bytes_shown (option_map (λ (r : StoredSubmission). r.bytes) (submission_numbered s n)))
  finds_sent h =
      let p = λ (r : StoredSubmission). r.seq == key in
      let shown : StoredSubmission → Row = λ r. bytes_shown r.bytes in
      let all = behind_number (λ (r : StoredSubmission). r.icn) s.submitted in
      let low : length (filter p s.submitted) ≤ 1 = one_low (λ (r : StoredSubmission). r.seq) key s.submitted sound.numbered.submitted in
      finds_one sent_text (Int (pos key) ∷ []) old new has.schema 3 sent_wheres sent_shows (codes "bytes" ∷ []) sent_is submission_row (map by_icn s.submitted) has.submitted.same p shown
      (λ x. rw (int_test x.1.seq key) (one_and (x.1.seq == key))) (λ x. refl) (subst (λ rs. length (filter p rs) ≤ 1) (sym all) low) rows h
      ∙ ap (λ rs. option_to_list (option_map shown (find p rs))) all
      ∙ ap option_to_list (ap (option_map shown) (submission_asked s sound n) ∙ over bytes_shown (λ (r : StoredSubmission). r.bytes) (submission_numbered s n))

  pub finds_came : Shown came_text (Int (pos key) ∷ []) old new rows → rows ≡ option_to_list (option_map filed_shown (option_map (λ (r : StoredArrival). r.filed) (arrival_numbered s n)))
  finds_came h =
      let num = λ (r : StoredArrival). r.seq in
      let shown : StoredArrival → Row = λ r. filed_shown r.filed in
      let low = one_low num key s.arrived sound.numbered.arrived in
      finds_key came_text (Int (pos key) ∷ []) old new has.schema 6 came_wheres came_shows (codes "bytes" ∷ codes "reply" ∷ []) came_is arrival_row (map by_seq s.arrived) has.arrived.are.same (λ x. x.0 == key) (λ (x : ℕ × StoredArrival). filed_shown x.1.filed)
      (λ x. rw (int_test x.0 key) (one_and (x.0 == key))) (λ x. refl) (omega (arith, low, many_numbered num key s.arrived)) rows h
      ∙ ap option_to_list (find_numbered num shown key s.arrived ∙ ap (option_map shown) (arrival_asked s sound n) ∙ over filed_shown (λ (r : StoredArrival). r.filed) (arrival_numbered s n))

-- Both as items of the history.
pub arrived_item : (marks : Marks) (n : ℕ) (o : Option StoredArrival) → option_map (item_kept marks n) (option_map kept_of (option_map (λ (r : StoredArrival). r.filed) o)) ≡ option_map (item_of_arrival marks n) o
arrived_item marks n None = refl
arrived_item marks n (Some r) = refl

pub sent_item : (s : Stored) (n : ℕ) (bytes : List ℕ) → Some bytes ≡ option_map (λ (r : StoredSubmission). r.bytes) (submission_numbered s n) → Some (Submitted bytes) ≡ item_at s n
sent_item s n bytes h = by (submission_numbered s n) h
  where
    by : (o : Option StoredSubmission) → Some bytes ≡ option_map (λ (r : StoredSubmission). r.bytes) o → Some (Submitted bytes) ≡ option_or (option_map (λ (r : StoredSubmission). Submitted r.bytes) o) (option_map (item_of_arrival (marks_of s.origin) n) (arrival_numbered s n))
    by None h = absurd cc
    by (Some r) h = ap (λ b. Some (Submitted b)) (some_inj h)

pub arrived_else : (s : Stored) (n : ℕ) → None ≡ option_map (λ (r : StoredSubmission). r.bytes) (submission_numbered s n) → option_map (item_of_arrival (marks_of s.origin) n) (arrival_numbered s n) ≡ item_at s n
arrived_else s n h = by (submission_numbered s n) h
  where
    by : (o : Option StoredSubmission) → None ≡ option_map (λ (r : StoredSubmission). r.bytes) o → option_map (item_of_arrival (marks_of s.origin) n) (arrival_numbered s n) ≡ option_or (option_map (λ (r : StoredSubmission). Submitted r.bytes) o) (option_map (item_of_arrival (marks_of s.origin) n) (arrival_numbered s n))
    by None h = refl
    by (Some r) h = absurd cc
