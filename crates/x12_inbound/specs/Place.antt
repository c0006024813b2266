-- Where something stands among things that are kept in order, or is to stand.
use Rattle.std.specs.Prelude.{◌≡◌, ℕ, ◌≤◌, List, length}
use Rattle.std.specs.List.Sorted.{IsPartitionPoint}
use Rattle.std.specs.declared.cmp.Ordering.{Ordering}
use Rattle.std.specs.declared.cmp.Ordering.TheVariants.{Less, Greater}

-- a place: what stands before it is below, and what stands from it on is above
pub record IsPlace {X : Type 0} (order : X → Ordering) (xs : List X) (at : ℕ) : Type 0 where
  pub within : at ≤ length xs
  pub split : IsPartitionPoint (λ x. order x ≡ Less) (λ x. order x ≡ Greater) xs at
