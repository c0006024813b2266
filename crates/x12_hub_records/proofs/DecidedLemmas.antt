-- The decisions, once their rows are tested.
use Rattle.std.proofs.Common.{◌≡◌, ◌<◌, ◌+◌, ◌∙◌, ◌&&◌, ℕ, pos, List, [], ◌∷◌, map, length, drop, not, true, false, Bool, Option, None, Some, refl, sym, ap, subst, arith, IsPermutation}
use Rattle.std.specs.List.{AllByRecursion, enumerate_from, list_any}
use Rattle.std.specs.Ordering.{is_eq, nat_cmp}
use Rattle.std.specs.Str.{bytes_eq}
use Rattle.std.proofs.lemmas.List.{length-drop}
use Rattle.std.proofs.lemmas.List.Sorted.{list_any-IsPermutation}
use Rattle.sqlite.specs.declared.types.Value.{Value}
use Rattle.sqlite.specs.declared.types.Value.TheVariants.{Null, Int, Real, Text, Blob}
use Rattle.sqlite.specs.Collation.TheVariants.{Binary}
use Rattle.sqlite.specs.Ops.{from_truth}
use Rattle.sqlite.specs.Order.{Row, column, value_cmp}
use Rattle.sqlite.specs.Tree.{Trees, rowid}
use Rattle.sqlite_schema.specs.Rules.{passes, is_of, equal, differ}
use Rattle.sqlite_schema.specs.declared.schema.Constraint.TheVariants.{Datatype, NotNull, Unique}
use Rattle.sqlite_sql.specs.Ops.{is_null}
use Rattle.sqlite_value.specs.Keys.{first_key}
use Rattle.sqlite_value.proofs.OrderLemmas.{value_cmp-Null}
use Rattle.sql_rows.specs.Keyed.{with_id, AreRows, by_key}
use Rattle.sql_rows.proofs.Sorted.{by_key_is}
use Rattle.sql_rows.proofs.Tests.{blob_test}
use Rattle.x12_hub.specs.DecidesOnce.{AreOnce}
use Rattle.x12_hub.specs.Hub.{Decision, Boxed, Refused, decided}
use Rattle.x12_hub.specs.Stored.{HaveItemNumbers, IsNumbered}
use Rattle.std.proofs.lemmas.Bool.{not-true}
use Rattle.x12_numbers.proofs.Shelf.{all_weaker}
use Rattle.sqlite.specs.Kind.TheVariants as kind
use Rattle.x12_tables.proofs.AllRows.{all_moved}
use Rattle.x12_tables.proofs.KeyLemmas.{places_rise}
use Rattle.x12_tables.proofs.StoredLemmas.{typed_short, and_right, five, reaches, and_left, null_is, blob_is, or_right, apart_test, or_left}
use Rattle.x12_tables.specs.Party.{bytes_in}
use Rattle.x12_hub_records.proofs.ContentLemmas.{decisions_back}
use Rattle.x12_hub_records.specs.HubAdopt.{boxed_for, IsDecided, AreDecided, HasDecided}
use Rattle.x12_hub_records.specs.HubContent.{decision_in}
use Rattle.x12_hub_records.specs.HubSchema.{hub_schema, decision}
use Rattle.x12_hub_records.specs.HubTables.{decision_row, IsWideOutcome}

-- the table's rules on a row
abbrev pub IsStored : Row → Type 0
IsStored r = (passes Datatype hub_schema (λ _. []) (decision 2) r ≡ true) × (passes NotNull hub_schema (λ _. []) (decision 2) r ≡ true)

-- what is read of a row
abbrev pub show : Row → Row
show r = column r 0 ∷ column r 2 ∷ from_truth (Some (is_eq (value_cmp (column r 3) Null))) ∷ []

record Form (r : Row) : Type 0 where
  whole : r ≡ column r 0 ∷ Null ∷ column r 2 ∷ column r 3 ∷ Blob (bytes_in (column r 4)) ∷ []
  typed : is_of kind.Blob (column r 3) ≡ true

form : (r : Row) → IsStored r → Form r
form r h =
    let low = typed_short (Some 0) 0 (decision 2).columns (drop 1 r) (and_left _ _ h.0) in
    let some = not-true (is_null (column r 4)) (and_left (not (is_null (column r 4))) true h.1) in
    let high = reaches r 4 some in
    let long : length r ≡ 5 = omega (arith, low, high, length-drop 1 r) in
    let whole = five r long in
    let typed = and_left _ _ (subst (λ x. passes Datatype hub_schema (λ _. []) (decision 2) x ≡ true) whole h.0) in
    let key = null_is (column r 1) (and_left _ _ typed) in
    let behind = and_right (is_null (column r 1)) _ typed in
    let later = and_right (is_of kind.Integer (column r 2)) _ behind in
    let refusal = and_left (is_of kind.Blob (column r 3)) _ later in
    let body = blob_is (column r 4) (and_left (is_of kind.Blob (column r 4)) true (and_right (is_of kind.Blob (column r 3)) _ later)) some in
    record {
      whole = whole ∙ ap (λ v. column r 0 ∷ v ∷ column r 2 ∷ column r 3 ∷ column r 4 ∷ []) key ∙ ap (λ v. column r 0 ∷ Null ∷ column r 2 ∷ column r 3 ∷ v ∷ []) body;
      typed = refusal;
    }

said_null : (v : Value) → from_truth (Some (is_eq (value_cmp v Null))) ≡ Int (pos 1) → v ≡ Null
unfolding value_cmp
said_null Null h = refl
said_null (Int n) h = absurd cc
said_null (Real x) h = absurd cc
said_null (Text t) h = absurd cc
said_null (Blob b) h = absurd cc

said_not : (v : Value) → from_truth (Some (is_eq (value_cmp v Null))) ≡ Int (pos 0) → is_null v ≡ false
unfolding value_cmp
said_not Null h = absurd (let e : from_truth (Some (is_eq (nat_cmp 0 0))) ≡ Int (pos 0) = sym (ap (λ o. from_truth (Some (is_eq o))) (value_cmp-Null Null)) ∙ h in cc)
said_not (Int n) h = refl
said_not (Real x) h = refl
said_not (Text t) h = refl
said_not (Blob b) h = refl

record One (item : ℕ) (o : Option ℕ) (r : Row) : Type 0 where
  d : Decision
  row_is : r ≡ with_id decision_row (item, d)
  numbered : IsNumbered item d.outcome
  boxed : boxed_for d ≡ o
  wide : IsWideOutcome d.outcome

one : (item : ℕ) (o : Option ℕ) (r : Row) → IsStored r → IsDecided item o (show r) → One item o r
one item (Some node) r stored is =
    let f = form r stored in
    let none = said_null (column r 3) is.2 in
    record {
      d = record { body = bytes_in (column r 4); outcome = Boxed node item };
      row_is = f.whole ∙ rw (is.0, is.1, none) refl;
      numbered = refl;
      boxed = refl;
      wide = is.4;
    }
one item None r stored is =
    let f = form r stored in
    let reply = blob_is (column r 3) f.typed (said_not (column r 3) is.2) in
    record {
      d = record { body = bytes_in (column r 4); outcome = Refused (bytes_in (column r 3)) };
      row_is = f.whole ∙ ap (λ v. column r 0 ∷ Null ∷ column r 2 ∷ v ∷ Blob (bytes_in (column r 4)) ∷ []) reply ∙ rw (is.0, is.1) refl;
      numbered = tt;
      boxed = refl;
      wide = tt;
    }

-- the rows of decisions from a number on
abbrev rows_of : ℕ → List Decision → List Row
rows_of n ds = map (with_id decision_row) (enumerate_from n ds)

record Decided (item : ℕ) (os : List (Option ℕ)) (rs : List Row) : Type 0 where
  ds : List Decision
  rows_are : rs ≡ rows_of item ds
  numbered : HaveItemNumbers item ds
  boxed : map boxed_for ds ≡ os
  wide : AllByRecursion (λ d. IsWideOutcome d.outcome) ds

all_decided : (item : ℕ) (os : List (Option ℕ)) (rs : List Row) → AllByRecursion IsStored rs → AreDecided item os (map show rs) → Decided item os rs
all_decided item [] [] stored are = record { ds = []; rows_are = refl; numbered = tt; boxed = refl; wide = tt }
all_decided item (o ∷ os) [] stored are = absurd are
all_decided item [] (r ∷ rs) stored are = absurd are
all_decided item (o ∷ os) (r ∷ rs) stored are =
    let first = one item o r stored.0 are.0 in
    let rest = all_decided (item + 1) os rs stored.1 are.1 in
    record {
      ds = first.d ∷ rest.ds;
      rows_are = ap (λ x. x ∷ rs) first.row_is ∙ ap (λ xs. with_id decision_row (item, first.d) ∷ xs) rest.rows_are;
      numbered = (first.numbered, rest.numbered);
      boxed = ap (λ x. x ∷ map boxed_for rest.ds) first.boxed ∙ ap (λ xs. o ∷ xs) rest.boxed;
      wide = (first.wide, rest.wide);
    }

-- another row has the same bytes
abbrev is_twice : Row → Row → Bool
is_twice r other = (equal Binary (column other 4) (column r 4) && true) && differ (rowid other) (rowid r)

apart : (b : List ℕ) (k n : ℕ) (ds : List Decision) → k < n → list_any (λ other. (equal Binary (column other 4) (Blob b) && true) && differ (rowid other) (Int (pos k))) (rows_of n ds) ≡ false → decided ds b ≡ None
apart b k n [] low h = refl
apart b k n (d ∷ ds) low h =
    let first = or_left ((equal Binary (Blob d.body) (Blob b) && true) && differ (Int (pos n)) (Int (pos k))) _ h in
    let rest = or_right ((equal Binary (Blob d.body) (Blob b) && true) && differ (Int (pos n)) (Int (pos k))) _ h in
    let other : bytes_eq d.body b ≡ false = unequal (bytes_eq d.body b) (rw (blob_test d.body b, apart_test n k low) at first) in
    rw other (apart b k (n + 1) ds (omega (arith, low)) rest)
  where
    unequal : (c : Bool) → (c && true) && true ≡ false → c ≡ false
    unequal true h = absurd cc
    unequal false h = refl

once : (n : ℕ) (ds : List Decision) → AllByRecursion (λ r. list_any (is_twice r) (rows_of n ds) ≡ false) (rows_of n ds) → AreOnce ds
once n [] h = tt
once n (d ∷ ds) h =
    let r = with_id decision_row (n, d) in (
      apart d.body n (n + 1) ds (omega arith) (or_right (is_twice r r) _ h.0),
      once (n + 1) ds (all_weaker (λ x. list_any (is_twice x) (rows_of n (d ∷ ds)) ≡ false) (λ x. list_any (is_twice x) (rows_of (n + 1) ds) ≡ false) (rows_of (n + 1) ds) (λ x. or_right (is_twice x r) _) h.1),
    )

-- the table's rule that bytes are UNIQUE
unclashed : (db : Trees) (r : Row) → passes Unique hub_schema db (decision 2) r ≡ true → list_any (is_twice r) (db 2) ≡ false
unfolding first_key
unclashed db r h = not-true (list_any (is_twice r) (db 2)) (and_left (not (list_any (is_twice r) (db 2))) true h)

-- tested rows are those of the decisions that the tables stand for
pub has_decided : (db : Trees) (os : List (Option ℕ)) (rows all : List Row) → AllByRecursion IsStored (db 2) → AllByRecursion (λ r. passes Unique hub_schema db (decision 2) r ≡ true) (db 2)
    → IsPermutation (db 2) all → rows ≡ map show all → AreDecided 1 os rows → HasDecided os db (map decision_in (by_key (db 2)))
has_decided db os rows all stored unique moved is are =
    let d = all_decided 1 os all (all_moved IsStored (db 2) all moved stored) (subst (AreDecided 1 os) is are) in
    let held : AreRows decision_row (enumerate_from 1 d.ds) (db 2) = record { same = subst (IsPermutation (db 2)) d.rows_are moved; rise = places_rise 0 1 d.ds (omega arith) } in
    let back : map decision_in (by_key (db 2)) ≡ d.ds = ap (map decision_in) (by_key_is decision_row (enumerate_from 1 d.ds) (db 2) held) ∙ decisions_back 1 d.ds d.numbered in
    let single : AllByRecursion (λ r. list_any (is_twice r) (db 2) ≡ false) (db 2) = all_weaker (λ r. passes Unique hub_schema db (decision 2) r ≡ true) (λ r. list_any (is_twice r) (db 2) ≡ false) (db 2) (unclashed db) unique in
    let here : AllByRecursion (λ r. list_any (is_twice r) (rows_of 1 d.ds) ≡ false) (db 2) = all_weaker (λ r. list_any (is_twice r) (db 2) ≡ false) (λ r. list_any (is_twice r) (rows_of 1 d.ds) ≡ false) (db 2) (λ r h. sym (list_any-IsPermutation (is_twice r) (db 2) (rows_of 1 d.ds) held.same) ∙ h) single in
    subst (HasDecided os db) (sym back) (record {
      rows = held;
      once = once 1 d.ds (all_moved (λ r. list_any (is_twice r) (rows_of 1 d.ds) ≡ false) (db 2) (rows_of 1 d.ds) held.same here);
      numbered = d.numbered;
      boxed = d.boxed;
      wide = d.wide;
    })
