-- Lists of numbered values, and texts of two parts.
use Rattle.std.proofs.Common.{if◌then◌else◌, ◌≡◌, ◌≤◌, ◌<◌, ◌+◌, ◌++◌, ℕ, List, [], ◌∷◌, length, map, filter, Bool, refl, ap, subst, inl, inr, arith, append-nil, IsPermutation}
use Rattle.std.specs.List.{AllByRecursion, enumerate_from}
use Rattle.std.proofs.lemmas.Bool.{cases_Bool}
use Rattle.std.proofs.lemmas.List.Sorted.{IsPermutation-sym, IsPermutation-middle}
use Rattle.sql_rows.specs.Keyed.{RisesFrom}

module _ {X : Type 0} where
  -- what is put in front may as well stand behind
  pub behind_all : (x : X) (xs : List X) → IsPermutation (x ∷ xs) (xs ++ x ∷ [])
  behind_all x xs = subst (λ ys. IsPermutation (x ∷ ys) (xs ++ x ∷ [])) (append-nil xs) (IsPermutation-sym _ _ (IsPermutation-middle xs x []))

  pub but_last : (P : X → Type 0) (xs : List X) (x : X) → AllByRecursion P (xs ++ x ∷ []) → AllByRecursion P xs × P x
  but_last P [] x h = (tt, h.0)
  but_last P (y ∷ ys) x h = let rest = but_last P ys x h.1 in ((h.0, rest.0), rest.1)

  pub raised : (low high : ℕ) (at : List (ℕ × X)) → low ≤ high → AllByRecursion (λ x. x.0 < low) at → AllByRecursion (λ x. x.0 < high) at
  raised low high [] up h = tt
  raised low high (x ∷ at) up h = (omega (arith, up, h.0), raised low high at up h.1)

  pub rises_to : (n next : ℕ) (at : List (ℕ × X)) (x : ℕ × X) → n < x.0 → next ≤ x.0 → RisesFrom n at → AllByRecursion (λ x. x.0 < next) at → RisesFrom n (at ++ x ∷ [])
  rises_to n next [] x low above rise within = (low, tt)
  rises_to n next (y ∷ ys) x low above rise within = (rise.0, rises_to y.0 next ys x (omega (arith, above, within.0)) above rise.1 within.1)

  pub behind_filter : (p : X → Bool) (at : List (ℕ × X)) → map (λ (x : ℕ × X). x.1) (filter (λ (x : ℕ × X). p x.1) at) ≡ filter p (map (λ (x : ℕ × X). x.1) at)
  behind_filter p [] = refl
  behind_filter p (x ∷ at) = elim (cases_Bool (p x.1)) [
    | inl yes1 ↦ rw (yes1, behind_filter p at) refl
    | inr no1 ↦ rw (no1, behind_filter p at) refl
  ]

  pub as_many : (p : X → Bool) (n : ℕ) (xs : List X) → length (filter (λ (x : ℕ × X). p x.1) (enumerate_from n xs)) ≡ length (filter p xs)
  as_many p n [] = refl
  as_many p n (x ∷ xs) = elim (cases_Bool (p x)) [
    | inl yes1 ↦ rw (yes1, as_many p (n + 1) xs) refl
    | inr no1 ↦ rw (no1, as_many p (n + 1) xs) refl
  ]

  pub steps_are : (p : X → Bool) (upd : X → X) (n : ℕ) (xs : List X) → map (λ (x : ℕ × X). (x.0, if p x.1 then upd x.1 else x.1)) (enumerate_from n xs) ≡ enumerate_from n (map (λ x. if p x then upd x else x) xs)
  steps_are p upd n [] = refl
  steps_are p upd n (x ∷ xs) = ap (λ more. (n, if p x then upd x else x) ∷ more) (steps_are p upd (n + 1) xs)
