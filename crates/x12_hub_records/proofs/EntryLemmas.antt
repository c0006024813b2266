-- The directory, once its rows are tested.
use Rattle.std.proofs.Common.{◌≡◌, ◌≤◌, ◌<◌, ◌^◌, ◌∙◌, ℕ, List, [], ◌∷◌, map, length, drop, not, true, Some, refl, sym, ap, subst, arith, IsPermutation}
use Rattle.std.specs.List.{AllByRecursion}
use Rattle.std.proofs.lemmas.List.{take-append-drop, length-take-le, length-drop}
use Rattle.sqlite.specs.declared.types.Value.TheVariants.{Null}
use Rattle.sqlite.specs.Order.{Row, column}
use Rattle.sqlite.specs.Tree.{Trees}
use Rattle.sqlite_schema.specs.Rules.{passes}
use Rattle.sqlite_schema.specs.declared.schema.Constraint.TheVariants.{Datatype, NotNull}
use Rattle.sqlite_sql.specs.Ops.{is_null}
use Rattle.sql_rows.specs.Keyed.{with_id, RisesFrom, AreRows, by_key}
use Rattle.sql_rows.proofs.Sorted.{by_key_is}
use Rattle.x12_hub.specs.Hub.{Mailbox}
use Rattle.std.proofs.lemmas.Bool.{not-true}
use Rattle.x12_tables.proofs.AllRows.{all_moved}
use Rattle.x12_tables.proofs.StoredLemmas.{typed_short, and_right, reaches, and_left, null_is, four}
use Rattle.x12_tables.specs.Party.{party_in}
use Rattle.x12_hub_records.proofs.ContentLemmas.{directory_back}
use Rattle.x12_hub_records.specs.HubAdopt.{AreEntries}
use Rattle.x12_hub_records.specs.HubContent.{mailbox_in}
use Rattle.x12_hub_records.specs.HubSchema.{hub_schema, directory}
use Rattle.x12_hub_records.specs.HubTables.{directory_row, IsWideEntry, HoldsDirectory}

-- the table's rules on a row
abbrev pub IsStored : Row → Type 0
IsStored r = (passes Datatype hub_schema (λ _. []) (directory 0) r ≡ true) × (passes NotNull hub_schema (λ _. []) (directory 0) r ≡ true)

-- what is read of a row
abbrev pub show : Row → Row
show r = column r 0 ∷ column r 2 ∷ column r 3 ∷ []

stored_is : (r : Row) → IsStored r → r ≡ column r 0 ∷ Null ∷ column r 2 ∷ column r 3 ∷ []
stored_is r h =
    let low = typed_short (Some 0) 0 (directory 0).columns (drop 1 r) (and_left _ _ h.0) in
    let high = reaches r 3 (not-true (is_null (column r 3)) (and_left (not (is_null (column r 3))) true (and_right (not (is_null (column r 2))) _ h.1))) in
    let long : length r ≡ 4 = omega (arith, low, high, length-drop 1 r) in
    let whole = four r long in
    let typed = subst (λ x. passes Datatype hub_schema (λ _. []) (directory 0) x ≡ true) whole h.0 in
    whole ∙ ap (λ v. column r 0 ∷ v ∷ column r 2 ∷ column r 3 ∷ []) (null_is (column r 1) (and_left _ _ (and_left _ _ typed)))

-- the entries that rows stand for, numbered from above the last up to the end
record Entries (last end : ℕ) (rs : List Row) : Type 0 where
  at : List (ℕ × Mailbox)
  rows_are : rs ≡ map (with_id directory_row) at
  rise : RisesFrom last at
  within : AllByRecursion (λ x. x.0 ≤ end) at
  low : last ≤ end
  few : last < 2 ^ 32 → end < 2 ^ 32
  wide : AllByRecursion IsWideEntry (map (λ (x : ℕ × Mailbox). x.1) at)

entries : (last end : ℕ) (rs : List Row) → AllByRecursion IsStored rs → AreEntries last end (map show rs) → Entries last end rs
entries last end [] stored are = record { at = []; rows_are = refl; rise = tt; within = tt; low = omega (arith, are); few = λ low. omega (arith, low, are); wide = tt }
entries last end (r ∷ rs) stored are =
    let rest = entries are.0 end rs stored.1 are.2 in
    let e = are.1 in
    let m : Mailbox = record { party = party_in e.bytes; node = e.node } in
    let row : r ≡ with_id directory_row (are.0, m) = stored_is r stored.0 ∙ rw (e.at_is, e.party_is, e.node_is, take-append-drop 2 e.bytes) refl in
    record {
      at = (are.0, m) ∷ rest.at;
      rows_are = ap (λ x. x ∷ rs) row ∙ ap (λ xs. with_id directory_row (are.0, m) ∷ xs) rest.rows_are;
      rise = (e.above, rest.rise);
      within = (rest.low, rest.within);
      low = omega (arith, e.above, rest.low);
      few = λ low. rest.few e.narrow.0;
      wide = (((length-take-le 2 e.bytes (omega (arith, e.width)), omega (arith, e.width, length-drop 2 e.bytes)), e.narrow.1), rest.wide);
    }

-- tested rows are those of the directory that the tables stand for
pub holds_directory : (db : Trees) (end : ℕ) (rows all : List Row) → AllByRecursion IsStored (db 0) → IsPermutation (db 0) all → rows ≡ map show all → AreEntries 0 end rows
    → HoldsDirectory end (map mailbox_in (by_key (db 0))) (db 0)
holds_directory db end rows all stored moved is are =
    let e = entries 0 end all (all_moved IsStored (db 0) all moved stored) (subst (AreEntries 0 end) is are) in
    let held : AreRows directory_row e.at (db 0) = record { same = subst (IsPermutation (db 0)) e.rows_are moved; rise = e.rise } in
    let back : map mailbox_in (by_key (db 0)) ≡ map (λ (x : ℕ × Mailbox). x.1) e.at = ap (map mailbox_in) (by_key_is directory_row e.at (db 0) held) ∙ directory_back e.at e.wide in
    record {
      at = e.at;
      are = held;
      within = e.within;
      entries_are = sym back;
      few = e.few (omega arith);
      wide = subst (AllByRecursion IsWideEntry) (sym back) e.wide;
    }
