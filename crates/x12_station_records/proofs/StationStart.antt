-- The first numbers of a station's records.
use Rattle.std.proofs.Common.{◌≡◌, ◌∙◌, ℕ, pos, List, [], ◌∷◌, codes, Ok, refl, sym, subst, arith, IsPermutation}
use Rattle.std.proofs.lemmas.List.Sorted.{IsPermutation-refl}
use Rattle.std.specs.List.{AllByRecursion}
use Rattle.std.specs.Prelude.{option_to_list}
use Rattle.sqlite.specs.declared.types.Value.TheVariants.{Null, Int, Blob}
use Rattle.sqlite.specs.Command.TheVariants.{Insert}
use Rattle.sqlite.specs.Listing.{understood}
use Rattle.sqlite.specs.Source.TheVariants.{Values}
use Rattle.sqlite.specs.State.{State, Executes}
use Rattle.sqlite.specs.Order.{Row}
use Rattle.sqlite.specs.Term.{Term, col, lit}
use Rattle.sqlite.proofs.Callers.{IsPlain, command_of}
use Rattle.sqlite_tied.specs.Compute.{everything}
use Rattle.sql_rows.proofs.Statements.{adds}
use Rattle.x12_envelopes.specs.declared.party.Party.{Party}
use Rattle.x12_numbers.specs.Book.{new_book}
use Rattle.x12_outbound.specs.declared.hubs.Hubs.{Hubs}
use Rattle.x12_outbound.specs.Hubs.{hubs_of}
use Rattle.x12_tables.proofs.KeyLemmas.{no_rows}
use Rattle.x12_tables.specs.Party.{bytes_of_party, IsWideParty}
use Rattle.x12_tables.specs.Schema.{HasEmpty}
use Rattle.x12_station_records.proofs.StationNumberLemmas.{casts}
use Rattle.x12_station_records.proofs.StationTableLemmas.{numbers_is_free}
use Rattle.x12_station_records.specs.StationCreate.{first_rows, new_records}
use Rattle.x12_station_records.specs.StationPlan.{HoldsRows}
use Rattle.x12_station_records.specs.StationSchema.{numbers, station_schema}
use Rattle.x12_station_records.specs.StationTables.{other_value, posting_row, numbers_row, row_of_set, arrival_row, pair_row}
use Rattle.x12_station_records.specs.declared.station_numbers.NumbersRow.{NumbersRow}

abbrev pub start_text : List ℕ
start_text = codes "INSERT INTO numbers (one, version, party, hub, other, icn, gcn, seq, handed, noted, era) VALUES (1, 3, ?1, ?2, ?3, 0, 0, 0, 0, 0, 0)"

abbrev start_terms : List Term
start_terms = lit (Int (pos 1)) ∷ lit Null ∷ lit (Int (pos 3)) ∷ col 0 0 ∷ col 0 1 ∷ col 0 2 ∷ lit (Int (pos 0)) ∷ lit (Int (pos 0)) ∷ lit (Int (pos 0)) ∷ lit (Int (pos 0)) ∷ lit (Int (pos 0)) ∷ lit (Int (pos 0)) ∷ []

start_is : (command_of (understood station_schema start_text) ≡ Insert 0 (Values start_terms 12)) × IsPlain (understood station_schema start_text)
unfolding understood everything
start_is = (refl, (refl, refl))

abbrev first_numbers : Party → Hubs → NumbersRow
first_numbers party hubs = record { version = 3; owner = record { party = party; hub = hubs.hub; other = hubs.other; noted = 0; era = 0 }; book = new_book; seq = 0; handed = 0 }

abbrev pub start_params : Party → Hubs → Row
start_params party hubs = Blob (bytes_of_party party) ∷ Blob (bytes_of_party hubs.hub) ∷ other_value hubs.other ∷ []

pub starts : (old new : State) (party : Party) (hubs : Hubs) (count : ℕ) → IsWideParty party → IsWideParty hubs.hub → AllByRecursion IsWideParty (option_to_list hubs.other) → HasEmpty station_schema old.now → Executes start_text (start_params party hubs) old new (Ok count) → HoldsRows first_rows new.now (new_records party (hubs_of hubs))
starts old new party hubs count two also third has h =
    let first : ℕ × NumbersRow = (1, first_numbers party hubs) in
    let none = no_rows numbers_row (old.now.trees 0) has.empty.0 in
    let did = adds start_text (start_params party hubs) old new station_schema has.schema_is 0 (numbers 0) refl numbers_is_free start_is.1 (λ db. refl) numbers_row [] none
    start_terms 12 first (first ∷ []) refl refl (casts first) start_is.0 count h (IsPermutation-refl (first ∷ [])) (omega arith, tt) in
    let rest = did.1.others.1 in
    let submitted : new.now.trees 3 ≡ [] = rest.1.0 (λ z. omega (arith, z)) ∙ has.empty.1.1.0 in
    record {
      has = record {
        schema = did.1.schema_is;
        numbers = record { row = first.1; version_is = refl; are = did.0; said = refl; parties = (two, (also, third)); book = (omega arith, omega arith) };
        agreements = record {
          at = [];
          are = no_rows pair_row (new.now.trees 1) (rest.0 (λ z. omega (arith, z)) ∙ has.empty.1.0);
          counted = omega arith;
          within = tt;
          few = omega arith;
          pairs_are = refl;
          parties = tt;
          wide = tt;
        };
        submitted = record {
          same = subst (λ rows. IsPermutation rows []) (sym submitted) (IsPermutation-refl []);
          rise = λ i j d low high. absurd (omega (arith, high));
          numbered = tt;
          parties = tt;
        };
        sets = no_rows row_of_set (new.now.trees 4) (rest.1.1.0 (λ z. omega (arith, z)) ∙ has.empty.1.1.1.0);
        wide = tt;
        arrived = record { are = no_rows arrival_row (new.now.trees 6) (rest.1.1.1.0 (λ z. omega (arith, z)) ∙ has.empty.1.1.1.1.0); parties = tt; narrow = tt };
        postings = record { are = no_rows posting_row (new.now.trees 8) (rest.1.1.1.1.0 (λ z. omega (arith, z)) ∙ has.empty.1.1.1.1.1.0); few = omega arith; parties = tt; wide = tt };
      };
      sets = refl;
      postings = refl;
    }
