-- Elements of lists.
use Rattle.std.specs.Prelude.{◌≡◌, ℕ, ◌+◌, Bool, true, false, List, [], ◌∷◌, cond, filter, Contains, refl}
use Rattle.std.specs.List.{enumerate_from, AllByRecursion, AllZip}
use mathlib.Core.Path.{subst}
use mathlib.Core.Logic.{inl, inr}
use Rattle.x12_numbers.proofs.Shelf.{contains_cons, contains_head, contains_tail, none_in_nil}

module _ {X : Type 0} where
  pub all_in : (P : X → Type 0) (xs : List X) (x : X) → AllByRecursion P xs → Contains xs x → P x
  all_in P [] x all h = none_in_nil x h
  all_in P (y ∷ xs) x all h = elim (contains_cons x y xs h) [ inl same ↦ subst P same all.0 | inr later ↦ all_in P xs x all.1 later ]

  pub in_filter : (p : X → Bool) (xs : List X) (x : X) → Contains (filter p xs) x → Contains xs x × (p x ≡ true)
  in_filter p [] x h = none_in_nil x h
  in_filter p (y ∷ xs) x h = by (p y) refl h (in_filter p xs x)
    where
      by : (b : Bool) → p y ≡ b → Contains (cond b (y ∷ filter p xs) (filter p xs)) x → (Contains (filter p xs) x → Contains xs x × (p x ≡ true)) → Contains (y ∷ xs) x × (p x ≡ true)
      by true is h more = elim (contains_cons x y (filter p xs) h) [
        | inl same ↦ (subst (λ z. Contains (y ∷ xs) z) same (contains_head y xs), subst (λ z. p z ≡ true) same is)
        | inr later ↦ (contains_tail x y xs (more later).0, (more later).1)
      ]
      by false is h more = (contains_tail x y xs (more h).0, (more h).1)

module _ {X : Type 0} where
  pub in_enumerated : (n : ℕ) (xs : List X) (p : ℕ × X) → Contains (enumerate_from n xs) p → Contains xs p.1
  in_enumerated n [] p h = none_in_nil p h
  in_enumerated n (y ∷ xs) p h = elim (contains_cons p (n, y) (enumerate_from (n + 1) xs) h) [
    | inl same ↦ subst (λ z. Contains (y ∷ xs) z.1) same (contains_head y xs)
    | inr later ↦ contains_tail p.1 y xs (in_enumerated (n + 1) xs p later)
  ]

-- in lists that agree place by place, each element of the second has one of the first
pub zip_left : {A B : Type 0} (R : A → B → Type 0) (xs : List A) (ys : List B) → AllZip R xs ys → AllByRecursion (λ y. (x : A) × Contains xs x × R x y) ys
zip_left R [] [] zip = tt
zip_left R [] (y ∷ ys) zip = absurd zip
zip_left R (x ∷ xs) [] zip = absurd zip
zip_left {A} {B} R (x ∷ xs) (y ∷ ys) zip = ((x, contains_head x xs, zip.0), more ys (zip_left R xs ys zip.1))
  where
    more : (ys : List B) → AllByRecursion (λ y. (z : A) × Contains xs z × R z y) ys → AllByRecursion (λ y. (z : A) × Contains (x ∷ xs) z × R z y) ys
    more [] all = tt
    more (y ∷ ys) all = ((all.0.0, contains_tail all.0.0 x xs all.0.1, all.0.2), more ys all.1)
