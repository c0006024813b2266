-- The one row of numbers.
use Rattle.std.proofs.Common.{◌≡◌, ◌<◌, ◌^◌, ℕ, pos, [], ◌∷◌, true, Ok, refl, arith}
use Rattle.sqlite.specs.declared.types.Value.TheVariants.{Int}
use Rattle.sqlite.specs.Cast.{cast_row}
use Rattle.sqlite.specs.State.{State, Executes}
use Rattle.sql_rows.specs.Keyed.{with_id}
use Rattle.sql_rows.proofs.Tests.{cast_int, cast_null}
use Rattle.sql_rows.proofs.Statements.{changes}
use Rattle.x12_hub.specs.Stored.{HubStored}
use Rattle.x12_hub_records.proofs.HubCompile.{count_is, count_text, count_shows}
use Rattle.x12_hub_records.proofs.TableLemmas.{hubnumber_is_free, with_numbers}
use Rattle.x12_hub_records.specs.HubSchema.{hubnumber, hub_schema}
use Rattle.x12_hub_records.specs.HubTables.{hubnumber_row, HasHubTables, hub_numbers_of}
use Rattle.x12_hub_records.specs.declared.hub_numbers.HubNumbers.{HubNumbers}
use Rattle.sqlite.specs.Order.{Row}

pub casts : (x : ℕ × HubNumbers) → cast_row (hubnumber 5) (with_id hubnumber_row x) ≡ with_id hubnumber_row x
casts x = rw (cast_int x.0, cast_null, cast_int 1, cast_int x.1.icn, cast_int x.1.item) refl

pub counts : (old new : State) (icn item count last : ℕ) (s : HubStored) → item < 2 ^ 32 → HasHubTables last old.now s → Executes count_text (Int (pos icn) ∷ Int (pos item) ∷ []) old new (Ok count) → HasHubTables last new.now (record s { icn = icn; item = item })
counts old new icn item count last s few has h =
    let params : Row = Int (pos icn) ∷ Int (pos item) ∷ [] in
    let did = changes count_text params old new hub_schema has.schema 3 (hubnumber 5) refl hubnumber_is_free count_is.1 (λ db. refl) hubnumber_row ((1, hub_numbers_of s) ∷ []) has.numbers.are
    [] count_shows (λ n. true) (λ (n : HubNumbers). record n { icn = icn; item = item }) (λ x. refl) (λ x. refl) casts (omega arith) count_is.0 count h in
    with_numbers last s old new has did.1 icn item (record { are = did.0; party = has.numbers.party; few = few })
