-- Rows of tables, as the tables' rules and the tests on what was read of them tell them.
use Rattle.std.proofs.Common.{if◌then◌else◌, ◌≡◌, ◌<◌, ◌+◌, ◌&&◌, ◌∙◌, ℕ, suc, Bool, true, false, List, [], ◌∷◌, length, map, drop, not, Some, refl, sym, ap, ap₂, subst, arith, All, AllPairs, IsPermutation}
use Rattle.std.specs.List.{AllByRecursion, enumerate_from}
use Rattle.std.proofs.lemmas.List.{length-drop, take-append-drop, length-take-le}
use Rattle.std.proofs.lemmas.List.Elements.{All-cons, All-nil}
use Rattle.std.proofs.lemmas.List.Kept.{AllPairs-cons}
use Rattle.sqlite.specs.declared.types.Value.{Value}
use Rattle.sqlite.specs.declared.types.Value.TheVariants.{Blob}
use Rattle.sqlite.specs.Order.{Row, column}
use Rattle.sqlite.specs.Table.{Table}
use Rattle.sqlite_schema.specs.Names.{is_key}
use Rattle.sqlite_schema.specs.Rules.{are_typed, are_present, suits, is_of}
use Rattle.sqlite_schema.specs.declared.schema.Column.{Column}
use Rattle.sqlite_sql.specs.Ops.{is_null}
use Rattle.sql_rows.specs.Keyed.{with_id, RisesFrom, AreRows, by_key}
use Rattle.sql_rows.proofs.Sorted.{by_key_is, Rises}
use Rattle.std.proofs.lemmas.Bool.{not-true}
use Rattle.sqlite.specs.Kind.TheVariants as kind
use Rattle.x12_tables.proofs.KeyLemmas.{places_rise}
use Rattle.x12_tables.proofs.StoredLemmas.{and_left, and_right, typed_short, reaches, blob_is}
use Rattle.x12_tables.specs.OneRow.{AreColumns}
use Rattle.x12_tables.specs.Party.{bytes_in, bytes_of_party, party_in, IsParty, IsWideParty}

-- tests that are all passed
abbrev pub all_of : List Bool → Bool
all_of [] = true
all_of (b ∷ bs) = b && all_of bs

pub each_passed : (bs : List Bool) → all_of bs ≡ true → AllByRecursion (λ b. b ≡ true) bs
each_passed [] h = tt
each_passed (b ∷ bs) h = (and_left b (all_of bs) h, each_passed bs (and_right b (all_of bs) h))

-- the second row is the first from a column on
abbrev IsBehind : Row → ℕ → Row → Type 0
IsBehind r n s = (i : ℕ) → column r (n + i) ≡ column s i

behind_next : (r s : Row) (n : ℕ) (v : Value) → IsBehind r n (v ∷ s) → IsBehind r (n + 1) s
behind_next r s n v same i = let e : n + 1 + i ≡ n + suc i = omega arith in ap (column r) e ∙ same (suc i)

behind_here : (r s : Row) (n : ℕ) (v : Value) → IsBehind r n (v ∷ s) → column r n ≡ v
behind_here r s n v same = let e : n ≡ n + 0 = omega arith in ap (column r) e ∙ same 0

row_from : (r s vs : Row) (n : ℕ) → length s ≡ length vs → IsBehind r n s → AreColumns r n vs → s ≡ vs
row_from r [] [] n long same h = refl
row_from r [] (v ∷ vs) n long same h = absurd (omega (arith, long))
row_from r (x ∷ s) [] n long same h = absurd (omega (arith, long))
row_from r (x ∷ s) (v ∷ vs) n long same h =
    ap₂ (λ y ys. y ∷ ys) (sym (behind_here r s n x same) ∙ h.0) (row_from r s vs (n + 1) (omega (arith, long)) (behind_next r s n x same) h.1)

-- a row is that of its columns
pub row_is : (r vs : Row) → length r ≡ length vs → AreColumns r 0 vs → r ≡ vs
row_is r vs long h = row_from r r vs 0 long (λ i. let e : 0 + i ≡ i = omega arith in ap (column r) e) h

-- what a table's rules say of a row: the kinds of its values, and which are there
abbrev pub IsStored : Table → Row → Type 0
IsStored t r = (are_typed (Some 0) 0 t.columns (drop 1 r) && true ≡ true) × (are_present (Some 0) 0 t.columns r ≡ true)

pub long_is : (t : Table) (k : ℕ) (r : Row) → IsStored t r → length t.columns ≡ k → is_null (column r k) ≡ false → length r ≡ suc k
long_is t k r h many some =
    let low = typed_short (Some 0) 0 t.columns (drop 1 r) (and_left (are_typed (Some 0) 0 t.columns (drop 1 r)) true h.0) in
    let high = reaches r k some in
    omega (arith, low, high, many, length-drop 1 r)

-- the kinds of the values from a column on
abbrev pub Typed : ℕ → List Column → Row → ℕ → Type 0
Typed at [] r n = Unit {0}
Typed at (c ∷ cs) r n = ((if is_key (Some 0) at then is_null (column r n) else suits c (column r n)) ≡ true) × Typed (at + 1) cs r (n + 1)

typed_from : (r s : Row) (n at : ℕ) (cs : List Column) → length s ≡ length cs → IsBehind r n s → are_typed (Some 0) at cs s ≡ true → Typed at cs r n
typed_from r [] n at [] long same h = tt
typed_from r [] n at (c ∷ cs) long same h = absurd (omega (arith, long))
typed_from r (v ∷ s) n at [] long same h = absurd (omega (arith, long))
typed_from r (v ∷ s) n at (c ∷ cs) long same h =
    let test = λ (x : Value). if is_key (Some 0) at then is_null x else suits c x in (
      ap test (behind_here r s n v same) ∙ and_left (test v) (are_typed (Some 0) (at + 1) cs s) h,
      typed_from r s (n + 1) (at + 1) cs (omega (arith, long)) (behind_next r s n v same) (and_right (test v) (are_typed (Some 0) (at + 1) cs s) h),
    )

behind_first : (r : Row) → IsBehind r 1 (drop 1 r)
behind_first [] i = refl
behind_first (v ∷ r) i = let e : 1 + i ≡ suc i = omega arith in ap (column (v ∷ r)) e

pub typed_is : (t : Table) (r : Row) → IsStored t r → length r ≡ suc (length t.columns) → Typed 0 t.columns r 1
typed_is t r h long = typed_from r (drop 1 r) 1 0 t.columns (omega (arith, long, length-drop 1 r)) (behind_first r) (and_left (are_typed (Some 0) 0 t.columns (drop 1 r)) true h.0)

-- a value that is there, of bytes
pub blob : (v : Value) → is_of kind.Blob v ≡ true → not (is_null v) ≡ true → v ≡ Blob (bytes_in v)
blob v typed some = blob_is v typed (not-true (is_null v) some)

-- and of a party
pub party : (v : Value) → is_of kind.Blob v ≡ true → not (is_null v) ≡ true → v ≡ Blob (bytes_of_party (party_in (bytes_in v)))
party v typed some = blob v typed some ∙ ap Blob (sym (take-append-drop 2 (bytes_in v)))

pub wide_party_in : (v : Value) → IsParty v → IsWideParty (party_in (bytes_in v))
wide_party_in v h = (length-take-le 2 (bytes_in v) (omega (arith, h)), omega (arith, h, length-drop 2 (bytes_in v)))

-- rows that are those of values whose keys rise are what the tree holds, by their keys
pub kept : {X : Type 0} (enc : X → Row) (at : List (ℕ × X)) (tree all : List Row) → IsPermutation tree all → all ≡ map (with_id enc) at → RisesFrom 0 at → AreRows enc at tree × (by_key tree ≡ all)
kept enc at tree all moved is rise =
    let held : AreRows enc at tree = record { same = subst (IsPermutation tree) is moved; rise = rise } in
    (held, by_key_is enc at tree held ∙ sym is)

-- values by a number that rises
module _ {X : Type 0} (key : X → ℕ) where
  pub all_above : (n : ℕ) (xs : List X) → Rises key n xs → All (λ x. n < key x) xs
  all_above n [] h = All-nil (λ x. n < key x)
  all_above n (x ∷ xs) h = All-cons (λ y. n < key y) x xs h.0 (λ i d within. let up = all_above (key x) xs h.1 i d within in omega (arith, h.0, up))

  pub pairs_rise : (n : ℕ) (xs : List X) → Rises key n xs → AllPairs (λ x y. key x < key y) xs
  pairs_rise n [] h = λ i j d before within. absurd (omega (arith, within))
  pairs_rise n (x ∷ xs) h = AllPairs-cons (λ x y. key x < key y) x xs (all_above (key x) xs h.1) (pairs_rise (key x) xs h.1)

pub places : {X : Type 0} (xs : List X) → RisesFrom 0 (enumerate_from 1 xs)
places xs = places_rise 0 1 xs (omega arith)
