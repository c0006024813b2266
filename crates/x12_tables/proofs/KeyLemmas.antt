-- Rows under their keys.
use Rattle.std.proofs.Common.{◌≡◌, ◌<◌, ◌+◌, ℕ, List, [], ◌∷◌, refl, sym, ap, subst, arith, IsPermutation, ◌==◌, suc, map, true, false}
use Rattle.std.specs.List.{enumerate_from}
use Rattle.std.proofs.lemmas.List.Sorted.{IsPermutation-refl}
use Rattle.sqlite.specs.Order.{Row}
use Rattle.sql_rows.specs.Keyed.{RisesFrom, AreRows}
use Rattle.std.proofs.lemmas.Bool.Decides.{nat_tests}
use Rattle.sqlite.specs.Query.{Output}
use Rattle.sqlite.specs.Term.{Term, col, op2}
use Rattle.sqlite.specs.Collation.TheVariants.{Binary}
use Rattle.sqlite_sql.specs.declared.ops.CompareOp.TheVariants.{Eq}
use Rattle.sqlite_sql.specs.declared.ops.BinaryOp.TheVariants.{Compare}

module _ {X : Type 0} where
  pub places_rise : (m n : ℕ) (xs : List X) → m < n → RisesFrom m (enumerate_from n xs)
  places_rise m n [] low = tt
  places_rise m n (x ∷ xs) low = (low, places_rise n (n + 1) xs (omega arith))

module _ {X : Type 0} (f : X → Row) where
  pub seconds : (ys : List X) → map (λ (o : Output). o.1) (map (λ (x : X). ([], f x)) ys) ≡ map f ys
  seconds [] = refl
  seconds (y ∷ ys) = ap (λ more. f y ∷ more) (seconds ys)

pub level : (n : ℕ) → (n == n + 0) ≡ true
level n = grind (arith, nat_tests)

pub higher : (n k : ℕ) → (n == n + suc k) ≡ false
higher n k = grind (arith, nat_tests)

abbrev pub is : ℕ → ℕ → Term
is column parameter = op2 (Compare Eq Binary) (col 1 column) (col 0 parameter)

pub no_rows : {X : Type 0} (columns : X → Row) (rows : List Row) → rows ≡ [] → AreRows columns [] rows
no_rows columns rows none = record { same = subst (λ (rs : List Row). IsPermutation rs []) (sym none) (IsPermutation-refl []); rise = tt }
