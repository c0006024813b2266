-- The look-ups of a station's records.
use Rattle.std.proofs.Common.{◌≡◌, ◌≤◌, ◌==◌, ◌&&◌, ℕ, pos, List, [], ◌∷◌, codes, length, filter, find, Bool, true, false, option_map, refl, sym, ap, subst, ◌∙◌}
use Rattle.std.specs.List.{enumerate_from}
use Rattle.std.specs.Option.{option_to_list}
use Rattle.sqlite.specs.Command.TheVariants.{Select}
use Rattle.sqlite.specs.Listing.{understood, reads_listing}
use Rattle.sqlite.specs.declared.types.Value.TheVariants.{Int}
use Rattle.sqlite.specs.Order.{Row}
use Rattle.sqlite.specs.State.{State, Shown}
use Rattle.sqlite.specs.Term.{Term, col}
use Rattle.sqlite.proofs.Callers.{IsPlain, command_of}
use Rattle.sqlite_tied.specs.Compute.{everything}
use Rattle.sql_rows.proofs.Selects.{one_table}
use Rattle.sql_rows.proofs.Tests.{int_test}
use Rattle.sql_rows.specs.Query.{IsQuery}
use Rattle.sql_rows.proofs.Queries.{select_asks}
use Rattle.x12_acks.specs.Submission.{TransactionSetKey}
use Rattle.x12_station.specs.Stored.{Stored, StoredSet, is_row_of, stored_fate}
use Rattle.x12_tables.proofs.KeyLemmas.{is}
use Rattle.x12_station_records.proofs.StationAsks.{by_place, over, finds_one}
use Rattle.x12_station_records.specs.StationChange.{SetsOnce}
use Rattle.x12_station_records.specs.StationFinds.{fate_shown}
use Rattle.x12_station_records.specs.StationSchema.{station_schema}
use Rattle.x12_station_records.specs.StationTables.{row_of_set, HasTables}

abbrev pub fate_text : List ℕ
fate_text = codes "SELECT fate FROM outset WHERE icn = ?1 AND grp = ?2 AND place = ?3"

abbrev fate_wheres : List Term
fate_wheres = is 2 0 ∷ is 3 1 ∷ is 4 2 ∷ []

abbrev fate_shows : List Term
fate_shows = col 1 8 ∷ []

pub fate_is : (command_of (understood station_schema fate_text) ≡ Select (record { lets = []; body = one_table 4 fate_wheres fate_shows [] }) (codes "fate" ∷ [])) × (reads_listing station_schema fate_text ≡ false) × IsPlain (understood station_schema fate_text)
unfolding understood everything
fate_is = (refl, refl, (refl, refl))

pub fate_asks : IsQuery fate_text
unfolding everything
fate_asks = select_asks fate_text ((λ s base. refl), (λ s. refl))

pub three : (a b c : Bool) → a && (b && (c && true)) ≡ a && b && c
three true true true = refl
three true true false = refl
three true false c = refl
three false b c = refl

pub finds_fate : (old new : State) (k : TransactionSetKey) (rows : List Row) (next : ℕ) (s : Stored) → SetsOnce s → HasTables next old.now s → Shown fate_text (Int (pos k.icn) ∷ Int (pos k.group) ∷ Int (pos k.set) ∷ []) old new rows
    → rows ≡ option_to_list (option_map fate_shown (stored_fate s.sets k))
finds_fate old new k rows next s once has h =
    let shown : StoredSet → Row = λ t. fate_shown t.fate in
    let sets = by_place 1 s.sets in
    let low = subst (λ ts. length (filter (is_row_of k) ts) ≤ 1) (sym sets) (once k) in
    finds_one fate_text (Int (pos k.icn) ∷ Int (pos k.group) ∷ Int (pos k.set) ∷ []) old new has.schema 4 fate_wheres fate_shows (codes "fate" ∷ []) fate_is row_of_set (enumerate_from 1 s.sets) has.sets.same (is_row_of k) shown
    (λ x. rw (int_test x.1.icn k.icn, int_test x.1.group k.group, int_test x.1.set k.set) (three (x.1.icn == k.icn) (x.1.group == k.group) (x.1.set == k.set))) (λ x. refl) low rows h
    ∙ subst (λ ts. option_to_list (option_map shown (find (is_row_of k) ts)) ≡ option_to_list (option_map fate_shown (stored_fate s.sets k))) (sym sets) (ap option_to_list (over fate_shown (λ (t : StoredSet). t.fate) (find (is_row_of k) s.sets)))
