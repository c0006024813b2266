-- What the rules of a table say of its rows: how long they are, and which kinds their values have.
use Rattle.std.proofs.Common.{if◌then◌else◌, ◌≡◌, ◌≤◌, ◌<◌, ◌+◌, ◌&&◌, ◌||◌, ◌∙◌, ℕ, zero, suc, pos, List, [], ◌∷◌, length, Bool, true, false, Option, refl, ap, arith}
use Rattle.std.specs.Ordering.{is_ne}
use Rattle.sqlite.specs.declared.types.Value.{Value}
use Rattle.sqlite.specs.declared.types.Value.TheVariants.{Null, Int, Real, Text, Blob}
use Rattle.sqlite.specs.Ops.{binary}
use Rattle.sqlite.specs.Order.{Row, column, value_cmp}
use Rattle.sqlite_schema.specs.Rules.{are_typed, is_of, suits, differ}
use Rattle.sqlite_schema.specs.Names.{is_key}
use Rattle.sqlite_schema.specs.declared.schema.Column.{Column}
use Rattle.sqlite_sql.specs.Ops.{is_null}
use Rattle.sql_rows.proofs.Places.{less, more}
use Rattle.sql_rows.proofs.Tests.{told}
use Rattle.sqlite.specs.Kind.TheVariants as kind
use Rattle.x12_tables.specs.Party.{bytes_in}

pub and_left : (a b : Bool) → a && b ≡ true → a ≡ true
and_left true b h = refl
and_left false b h = absurd cc

pub and_right : (a b : Bool) → a && b ≡ true → b ≡ true
and_right true b h = h
and_right false b h = absurd cc

pub or_left : (a b : Bool) → a || b ≡ false → a ≡ false
or_left true b h = absurd cc
or_left false b h = refl

pub or_right : (a b : Bool) → a || b ≡ false → b ≡ false
or_right true b h = absurd cc
or_right false b h = h

pub null_is : (v : Value) → is_null v ≡ true → v ≡ Null
null_is Null h = refl
null_is (Int n) h = absurd cc
null_is (Real x) h = absurd cc
null_is (Text t) h = absurd cc
null_is (Blob b) h = absurd cc

pub blob_is : (v : Value) → is_of kind.Blob v ≡ true → is_null v ≡ false → v ≡ Blob (bytes_in v)
blob_is Null typed some = absurd cc
blob_is (Int n) typed some = absurd cc
blob_is (Real x) typed some = absurd cc
blob_is (Text t) typed some = absurd cc
blob_is (Blob b) typed some = refl

-- a row has no more values than its table has columns
pub typed_short : (key : Option ℕ) (at : ℕ) (cs : List Column) (vs : Row) → are_typed key at cs vs ≡ true → length vs ≤ length cs
typed_short key at [] [] h = omega arith
typed_short key at [] (v ∷ vs) h = absurd cc
typed_short key at (c ∷ cs) [] h = omega arith
typed_short key at (c ∷ cs) (v ∷ vs) h = let rest : length vs ≤ length cs = typed_short key (at + 1) cs vs (and_right (if is_key key at then is_null v else suits c v) (are_typed key (at + 1) cs vs) h) in omega (arith, rest)

-- a row reaches to a value that isn't NULL
pub reaches : (r : Row) (k : ℕ) → is_null (column r k) ≡ false → k < length r
reaches [] k h = absurd cc
reaches (v ∷ r) zero h = omega arith
reaches (v ∷ r) (suc k) h = let rest = reaches r k h in omega (arith, rest)

pub three : (r : Row) → length r ≡ 3 → r ≡ column r 0 ∷ column r 1 ∷ column r 2 ∷ []
three [] h = absurd (omega (arith, h))
three (a ∷ []) h = absurd (omega (arith, h))
three (a ∷ b ∷ []) h = absurd (omega (arith, h))
three (a ∷ b ∷ c ∷ []) h = refl
three (a ∷ b ∷ c ∷ d ∷ r) h = absurd (omega (arith, h))

pub four : (r : Row) → length r ≡ 4 → r ≡ column r 0 ∷ column r 1 ∷ column r 2 ∷ column r 3 ∷ []
four [] h = absurd (omega (arith, h))
four (a ∷ []) h = absurd (omega (arith, h))
four (a ∷ b ∷ []) h = absurd (omega (arith, h))
four (a ∷ b ∷ c ∷ []) h = absurd (omega (arith, h))
four (a ∷ b ∷ c ∷ d ∷ []) h = refl
four (a ∷ b ∷ c ∷ d ∷ e ∷ r) h = absurd (omega (arith, h))

pub five : (r : Row) → length r ≡ 5 → r ≡ column r 0 ∷ column r 1 ∷ column r 2 ∷ column r 3 ∷ column r 4 ∷ []
five [] h = absurd (omega (arith, h))
five (a ∷ []) h = absurd (omega (arith, h))
five (a ∷ b ∷ []) h = absurd (omega (arith, h))
five (a ∷ b ∷ c ∷ []) h = absurd (omega (arith, h))
five (a ∷ b ∷ c ∷ d ∷ []) h = absurd (omega (arith, h))
five (a ∷ b ∷ c ∷ d ∷ e ∷ []) h = refl
five (a ∷ b ∷ c ∷ d ∷ e ∷ f ∷ r) h = absurd (omega (arith, h))

-- rows with other keys are told apart
pub apart_test : (n k : ℕ) → k < n → differ (Int (pos n)) (Int (pos k)) ≡ true
unfolding binary
apart_test n k low = told (is_ne (value_cmp (Int (pos n)) (Int (pos k)))) ∙ ap is_ne (more n k low)

pub apart_below : (n k : ℕ) → n < k → differ (Int (pos n)) (Int (pos k)) ≡ true
unfolding binary
apart_below n k low = told (is_ne (value_cmp (Int (pos n)) (Int (pos k)))) ∙ ap is_ne (less n k low)
