-- The one row of a station's numbers.
use Rattle.std.proofs.Common.{◌≡◌, ◌∙◌, ℕ, pos, List, [], ◌∷◌, codes, true, false, Option, Some, Ok, refl, sym, ap, subst, arith, None}
use Rattle.sqlite.specs.declared.types.Value.TheVariants.{Int}
use Rattle.sqlite.specs.Cast.{cast, cast_row}
use Rattle.sqlite.specs.Command.{Command}
use Rattle.sqlite.specs.Command.TheVariants.{Select}
use Rattle.sqlite.specs.Listing.{understood, reads_listing}
use Rattle.sqlite.specs.Order.{Row}
use Rattle.sqlite.specs.State.{State, Executes, Shown}
use Rattle.sqlite.specs.Term.{Term, col}
use Rattle.sqlite.proofs.Callers.{IsPlain, command_of}
use Rattle.sqlite_tied.specs.Compute.{everything}
use Rattle.sql_rows.specs.Keyed.{with_id}
use Rattle.sql_rows.proofs.Selects.{one_table}
use Rattle.sql_rows.proofs.Tests.{cast_int, cast_null}
use Rattle.sql_rows.proofs.Statements.{changes}
use Rattle.sql_rows.specs.Query.{IsQuery}
use Rattle.sql_rows.proofs.Queries.{select_asks}
use Rattle.x12_envelopes.specs.declared.party.Party.{Party}
use Rattle.x12_numbers.specs.Book.{Numbers}
use Rattle.x12_station.specs.Record.{owner_view}
use Rattle.x12_station.specs.Stored.{Stored}
use Rattle.sqlite.specs.Kind.TheVariants as kind
use Rattle.x12_tables.proofs.OneRowLemmas.{shows_one}
use Rattle.x12_tables.proofs.RowLemmas.{row_is}
use Rattle.x12_tables.specs.OneRow.{AreColumns, whole, IsOneRow}
use Rattle.x12_station_records.proofs.StationCompile.{count_shows, count_is, count_text}
use Rattle.x12_station_records.proofs.StationContentLemmas.{numbers_back}
use Rattle.x12_station_records.proofs.StationTableLemmas.{numbers_is_free, with_numbers}
use Rattle.x12_station_records.specs.StationAdopt.{AreLastNumbers}
use Rattle.x12_station_records.specs.StationChange.{with_last_numbers}
use Rattle.x12_station_records.specs.StationNumbers.{KeptNumbers, newest_version, numbers_shown, numbers_view, numbers_kept_of}
use Rattle.x12_station_records.specs.StationSchema.{numbers, station_schema}
use Rattle.x12_station_records.specs.StationTables.{other_value, numbers_row, HasTables, CanBeUsed, AreWideParties}
use Rattle.x12_station_records.specs.declared.station_numbers.NumbersRow.{NumbersRow}

cast_other : (other : Option Party) → cast kind.Blob (other_value other) ≡ other_value other
cast_other None = refl
cast_other (Some party) = refl

pub casts : (x : ℕ × NumbersRow) → cast_row (numbers 0) (with_id numbers_row x) ≡ with_id numbers_row x
casts x = rw (cast_int x.0, cast_null, cast_int x.1.version, cast_other x.1.owner.other, cast_int x.1.book.interchange, cast_int x.1.book.group, cast_int x.1.seq, cast_int x.1.handed, cast_int x.1.owner.noted, cast_int x.1.owner.era) refl

-- tables of the newest version stand for their own marks
pub newest_view : (n : NumbersRow) → n.version ≡ newest_version → numbers_view n ≡ record { origin = owner_view n.owner; book = n.book; seq = n.seq; handed = n.handed }
newest_view n is = rw is refl

pub counts : (old new : State) (book : Numbers) (seq count next : ℕ) (s : Stored) → CanBeUsed book → HasTables next old.now s → Executes count_text (Int (pos book.interchange) ∷ Int (pos book.group) ∷ Int (pos seq) ∷ []) old new (Ok count) → HasTables next new.now (with_last_numbers book seq s)
counts old new book seq count next s used has h =
    let params : Row = Int (pos book.interchange) ∷ Int (pos book.group) ∷ Int (pos seq) ∷ [] in
    let m = has.numbers.row in
    let did = changes count_text params old new station_schema has.schema 0 (numbers 0) refl numbers_is_free count_is.1 (λ db. refl) numbers_row ((1, m) ∷ []) has.numbers.are
    [] count_shows (λ n. true) (λ (n : NumbersRow). record n { book = book; seq = seq }) (λ x. refl) (λ x. refl) casts (omega arith) count_is.0 count h in
    with_numbers next s old new has did.1 book seq (record {
      row = record m { book = book; seq = seq };
      version_is = has.numbers.version_is;
      are = did.0;
      said = newest_view (record m { book = book; seq = seq }) has.numbers.version_is ∙ ap (λ (k : KeptNumbers). record k { book = book; seq = seq }) (sym (newest_view m has.numbers.version_is) ∙ has.numbers.said);
      parties = has.numbers.parties;
      book = used;
    })

-- rows of the same columns say the same
pub same_numbers : (m n : NumbersRow) → AreWideParties m.owner → AreWideParties n.owner → AreColumns (whole (with_id numbers_row (1, m))) 0 (whole (with_id numbers_row (1, n))) → numbers_view n ≡ numbers_view m
same_numbers m n h k are =
    let alike = row_is (whole (with_id numbers_row (1, m))) (whole (with_id numbers_row (1, n))) refl are in
    sym (numbers_back n k) ∙ ap numbers_shown (sym alike) ∙ numbers_back m h

-- The row as a query on all its columns reads it.
abbrev pub numbers_text : List ℕ
numbers_text = codes "SELECT one, version, party, hub, other, icn, gcn, seq, handed, noted, era FROM numbers"

abbrev pub numbers_shows : List Term
numbers_shows = col 1 0 ∷ col 1 2 ∷ col 1 3 ∷ col 1 4 ∷ col 1 5 ∷ col 1 6 ∷ col 1 7 ∷ col 1 8 ∷ col 1 9 ∷ col 1 10 ∷ col 1 11 ∷ []

abbrev pub numbers_names : List (List ℕ)
numbers_names = codes "one" ∷ codes "version" ∷ codes "party" ∷ codes "hub" ∷ codes "other" ∷ codes "icn" ∷ codes "gcn" ∷ codes "seq" ∷ codes "handed" ∷ codes "noted" ∷ codes "era" ∷ []

abbrev pub numbers_command : Command
numbers_command = Select (record { lets = []; body = one_table 0 [] numbers_shows [] }) numbers_names

pub numbers_is : (command_of (understood station_schema numbers_text) ≡ numbers_command) × (reads_listing station_schema numbers_text ≡ false) × IsPlain (understood station_schema numbers_text)
unfolding understood everything
numbers_is = (refl, refl, (refl, refl))

pub numbers_asks : IsQuery numbers_text
unfolding everything
numbers_asks = select_asks numbers_text ((λ s base. refl), (λ s. refl))

pub loads_numbers : (old new : State) (next : ℕ) (rows : List Row) (s : Stored) (n : NumbersRow) → HasTables next old.now s → Shown numbers_text [] old new rows → AreLastNumbers newest_version n rows → numbers_view n ≡ numbers_kept_of s
loads_numbers old new next rows s n has h are =
    let m = has.numbers.row in
    let exact = shows_one numbers_text old new station_schema has.schema 0 numbers_shows numbers_names numbers_is numbers_row m has.numbers.are (λ x. refl) rows h in
    let read = subst (IsOneRow (whole (with_id numbers_row (1, n)))) exact are.row in
    same_numbers m n has.numbers.parties are.parties read ∙ has.numbers.said
