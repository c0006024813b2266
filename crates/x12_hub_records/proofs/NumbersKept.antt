-- The row of a hub's last numbers, once it is tested.
use Rattle.std.proofs.Common.{◌≡◌, ◌∙◌, ℕ, codes, List, [], ◌∷◌, map, length, not, false, refl, sym, ap, subst, IsPermutation}
use Rattle.std.specs.List.{AllByRecursion}
use Rattle.std.proofs.lemmas.Bool.{not-true}
use Rattle.sqlite.specs.Command.{Command}
use Rattle.sqlite.specs.Command.TheVariants.{Select}
use Rattle.sqlite.specs.Listing.{understood, reads_listing}
use Rattle.sqlite.specs.Order.{Row, column}
use Rattle.sqlite.specs.State.{State, Shown}
use Rattle.sqlite.specs.Term.{Term, col}
use Rattle.sqlite.proofs.Callers.{IsPlain, command_of}
use Rattle.sqlite_sql.specs.Ops.{is_null}
use Rattle.sqlite_tied.specs.Compute.{everything}
use Rattle.sql_rows.specs.Keyed.{with_id, AreRows}
use Rattle.sql_rows.proofs.Selects.{one_table}
use Rattle.sql_rows.specs.Query.{IsQuery}
use Rattle.sql_rows.proofs.Queries.{select_asks}
use Rattle.x12_hub.specs.Stored.{HubStored}
use Rattle.x12_tables.proofs.OneRowLemmas.{one_holds, shows_one}
use Rattle.x12_tables.proofs.RowLemmas.{row_is, IsStored, typed_is, long_is, each_passed}
use Rattle.x12_tables.proofs.StoredLemmas.{null_is}
use Rattle.x12_tables.specs.OneRow.{AreColumns, whole, IsOneRow}
use Rattle.x12_hub_records.proofs.ContentLemmas.{hub_numbers_back}
use Rattle.x12_hub_records.specs.HubAdopt.{AreNumbers}
use Rattle.x12_hub_records.specs.HubContent.{hub_numbers_shown}
use Rattle.x12_hub_records.specs.HubSchema.{hubnumber, hub_schema}
use Rattle.x12_hub_records.specs.HubTables.{hubnumber_row, HasHubTables, hub_numbers_of}
use Rattle.x12_hub_records.specs.declared.hub_numbers.HubNumbers.{HubNumbers}

-- what is read of a row
abbrev pub show : Row → Row
show r = column r 0 ∷ column r 2 ∷ column r 3 ∷ column r 4 ∷ column r 5 ∷ []

stored_is : (n : HubNumbers) (r : Row) → IsStored (hubnumber 5) r → AreColumns (show r) 0 (whole (with_id hubnumber_row (1, n))) → r ≡ with_id hubnumber_row (1, n)
stored_is n r h are =
    let some = each_passed (not (is_null (column r 2)) ∷ not (is_null (column r 3)) ∷ not (is_null (column r 4)) ∷ not (is_null (column r 5)) ∷ []) h.1 in
    let long : length r ≡ 6 = long_is (hubnumber 5) 5 r h refl (not-true (is_null (column r 5)) some.1.1.1.0) in
    let typed = typed_is (hubnumber 5) r h long in
    row_is r (with_id hubnumber_row (1, n)) long (are.0, (null_is (column r 1) typed.0, are.1))

-- a tested row is that of the numbers
pub numbers_hold : (n : HubNumbers) (tree all : List Row) → AllByRecursion (IsStored (hubnumber 5)) all → IsPermutation tree all → IsOneRow (whole (with_id hubnumber_row (1, n))) (map show all) → AreRows hubnumber_row ((1, n) ∷ []) tree
numbers_hold n = one_holds hubnumber_row n show (IsStored (hubnumber 5)) (stored_is n)

-- The row as a query on all its columns reads it.
abbrev pub numbers_text : List ℕ
numbers_text = codes "SELECT one, version, party, icn, item FROM hubnumber"

abbrev pub numbers_shows : List Term
numbers_shows = col 1 0 ∷ col 1 2 ∷ col 1 3 ∷ col 1 4 ∷ col 1 5 ∷ []

abbrev pub numbers_names : List (List ℕ)
numbers_names = codes "one" ∷ codes "version" ∷ codes "party" ∷ codes "icn" ∷ codes "item" ∷ []

abbrev pub numbers_command : Command
numbers_command = Select (record { lets = []; body = one_table 5 [] numbers_shows [] }) numbers_names

pub numbers_is : (command_of (understood hub_schema numbers_text) ≡ numbers_command) × (reads_listing hub_schema numbers_text ≡ false) × IsPlain (understood hub_schema numbers_text)
unfolding understood everything
numbers_is = (refl, refl, (refl, refl))

pub numbers_asks : IsQuery numbers_text
unfolding everything
numbers_asks = select_asks numbers_text ((λ s base. refl), (λ s. refl))

pub loads_numbers : (old new : State) (last : ℕ) (rows : List Row) (s : HubStored) (n : HubNumbers) → HasHubTables last old.now s → Shown numbers_text [] old new rows → AreNumbers n rows → n ≡ hub_numbers_of s
loads_numbers old new last rows s n has h are =
    let m = hub_numbers_of s in
    let exact = shows_one numbers_text old new hub_schema has.schema 5 numbers_shows numbers_names numbers_is hubnumber_row m has.numbers.are (λ x. refl) rows h in
    let read = subst (IsOneRow (whole (with_id hubnumber_row (1, n)))) exact are.row in
    let alike = row_is (whole (with_id hubnumber_row (1, m))) (whole (with_id hubnumber_row (1, n))) refl read in
    sym (hub_numbers_back n are.party) ∙ ap hub_numbers_shown (sym alike) ∙ hub_numbers_back m has.numbers.party
