-- Numbers above those that were given.
use native.Mathlib.Omega.{arith}
use Rattle.std.proofs.Common.{◌+◌, ◌<◌, ◌≡◌, ◌≤◌, ◌∷◌, List, drop, get_or, length, subst, sym, ℕ}
use Rattle.std.proofs.Math.Seq.{drop-cons}
use Rattle.x12_spool.specs.Numbering.{IsAboveAll}
use Rattle.x12_spool.proofs.DeedLemmas.{one_on}

above : (a b n : ℕ) → a ≤ b → b < n → a < n
above a b n under below = omega arith

module _ (given : List ℕ) (i d : ℕ) (within : i < length given) where
  -- one number more: what is above it and above what is left is above both
  pub goes_on : (was greatest : ℕ) → ((n : ℕ) → was < n → IsAboveAll n (drop i given) → IsAboveAll n given)
      → was ≤ greatest → get_or given i d ≤ greatest → (n : ℕ) → greatest < n → IsAboveAll n (drop (i + 1) given) → IsAboveAll n given
  goes_on was greatest before first second n below rest =
      before n (above was greatest n first below)
      (subst (IsAboveAll n) (sym (subst (λ k. drop i given ≡ get_or given i d ∷ drop k given) (one_on i) (drop-cons given i d within)))
      (above (get_or given i d) greatest n second below, rest))
