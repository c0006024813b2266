-- The first numbers of a hub's records.
use Rattle.std.proofs.Common.{◌≡◌, ℕ, pos, List, [], ◌∷◌, codes, Ok, refl, ◌∙◌, arith}
use Rattle.std.proofs.lemmas.List.Sorted.{IsPermutation-refl}
use Rattle.sqlite.specs.declared.types.Value.TheVariants.{Null, Int, Blob}
use Rattle.sqlite.specs.Command.TheVariants.{Insert}
use Rattle.sqlite.specs.Listing.{understood}
use Rattle.sqlite.specs.Source.TheVariants.{Values}
use Rattle.sqlite.specs.State.{State, Executes}
use Rattle.sqlite.specs.Term.{Term, col, lit}
use Rattle.sqlite.proofs.Callers.{IsPlain, command_of}
use Rattle.sqlite_tied.specs.Compute.{everything}
use Rattle.sql_rows.proofs.Statements.{adds}
use Rattle.x12_envelopes.specs.declared.party.Party.{Party}
use Rattle.x12_hub.specs.Stored.{hub_nothing_stored}
use Rattle.x12_tables.proofs.KeyLemmas.{no_rows}
use Rattle.x12_tables.specs.Party.{bytes_of_party, IsWideParty}
use Rattle.x12_tables.specs.Schema.{HasEmpty}
use Rattle.x12_hub_records.proofs.NumberLemmas.{casts}
use Rattle.x12_hub_records.proofs.TableLemmas.{hubnumber_is_free}
use Rattle.x12_hub_records.specs.HubSchema.{hubnumber, hub_schema}
use Rattle.x12_hub_records.specs.HubTables.{decision_row, directory_row, waiting_row, HasHubTables, hubnumber_row}
use Rattle.x12_hub_records.specs.declared.hub_numbers.HubNumbers.{HubNumbers}

abbrev pub start_text : List ℕ
start_text = codes "INSERT INTO hubnumber (one, version, party, icn, item) VALUES (1, 1, ?1, 0, 0)"

abbrev start_terms : List Term
start_terms = lit (Int (pos 1)) ∷ lit Null ∷ lit (Int (pos 1)) ∷ col 0 0 ∷ lit (Int (pos 0)) ∷ lit (Int (pos 0)) ∷ []

start_is : (command_of (understood hub_schema start_text) ≡ Insert 3 (Values start_terms 6)) × IsPlain (understood hub_schema start_text)
unfolding understood everything
start_is = (refl, (refl, refl))

pub starts : (old new : State) (party : Party) (count : ℕ) → IsWideParty party → HasEmpty hub_schema old.now → Executes start_text (Blob (bytes_of_party party) ∷ []) old new (Ok count) → HasHubTables 0 new.now (hub_nothing_stored party)
starts old new party count two has h =
    let first : ℕ × HubNumbers = (1, record { party = party; icn = 0; item = 0 }) in
    let none = no_rows hubnumber_row (old.now.trees 5) has.empty.1.1.1.0 in
    let did = adds start_text (Blob (bytes_of_party party) ∷ []) old new hub_schema has.schema_is 3 (hubnumber 5) refl hubnumber_is_free start_is.1 (λ db. refl) hubnumber_row [] none
    start_terms 6 first (first ∷ []) refl refl (casts first) start_is.0 count h (IsPermutation-refl (first ∷ [])) (omega arith, tt) in
    record {
      schema = did.1.schema_is;
      directory = record {
        at = [];
        are = no_rows directory_row (new.now.trees 0) (did.1.others.0 (λ z. omega (arith, z)) ∙ has.empty.0);
        within = tt;
        entries_are = refl;
        few = omega arith;
        wide = tt;
      };
      decisions = no_rows decision_row (new.now.trees 2) (did.1.others.1.0 (λ z. omega (arith, z)) ∙ has.empty.1.0);
      boxed = tt;
      waiting = no_rows waiting_row (new.now.trees 4) (did.1.others.1.1.0 (λ z. omega (arith, z)) ∙ has.empty.1.1.0);
      numbers = record { are = did.0; party = two; few = omega arith };
    }
