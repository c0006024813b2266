-- What `column = parameter` tests.
use Rattle.std.proofs.Common.{◌≡◌, ℕ, pos, ◌==◌, List, Bool, true, false, refl, ap, ◌∙◌, arith, cond, ◌&&◌}
use Rattle.std.proofs.lemmas.Int.{ints}
use Rattle.std.proofs.lemmas.Bool.Decides.{nat_tests}
use Rattle.std.specs.Ordering.{is_eq}
use Rattle.std.specs.Str.{bytes_eq}
use Rattle.std.proofs.lemmas.Map.Text.{is_eq-slice_cmp}
use Rattle.sqlite.specs.declared.types.Value.TheVariants.{Null, Int, Blob}
use Rattle.sqlite.specs.Ops.{binary, unary, is_true, from_truth}
use Rattle.sqlite.specs.Cast.{cast}
use Rattle.sqlite.specs.Kind.TheVariants.{Integer}
use Rattle.sqlite.specs.declared.types.Value.{Value}
use Rattle.sqlite.specs.Order.{value_cmp}
use Rattle.sqlite.specs.Collation.TheVariants.{Binary}
use Rattle.sqlite_sql.specs.declared.ops.CompareOp.TheVariants.{Eq}
use Rattle.sqlite_sql.specs.declared.ops.BinaryOp.TheVariants.{Compare}
use Rattle.sqlite_value.proofs.OrderLemmas.{value_cmp-Int, value_cmp-Blob}
use Rattle.std.specs.Prelude.{Some}

pub told : (b : Bool) → is_true (from_truth (Some b)) ≡ b
told true = refl
told false = refl

pub int_test : (m n : ℕ) → is_true (binary (Compare Eq Binary) (Int (pos m)) (Int (pos n))) ≡ (m == n)
unfolding binary
int_test m n = told (is_eq (value_cmp (Int (pos m)) (Int (pos n)))) ∙ ap is_eq (value_cmp-Int (pos m) (pos n)) ∙ grind (arith, ints, nat_tests)

pub blob_test : (a b : List ℕ) → is_true (binary (Compare Eq Binary) (Blob a) (Blob b)) ≡ bytes_eq a b
unfolding binary
blob_test a b = told (is_eq (value_cmp (Blob a) (Blob b))) ∙ ap is_eq (value_cmp-Blob a b) ∙ is_eq-slice_cmp a b

pub one_and : (b : Bool) → b && true ≡ b
one_and true = refl
one_and false = refl

either : (b : Bool) (x : Value) → cond b x x ≡ x
either true x = refl
either false x = refl

pub cast_int : (n : ℕ) → cast Integer (Int (pos n)) ≡ Int (pos n)
unfolding unary
cast_int n = either _ (Int (pos n))

pub cast_null : cast Integer Null ≡ Null
unfolding unary
cast_null = either _ Null
