-- Lists whose keys are apart: what has a key is one element, and two such lists with the same keys, in which the elements of each key are the same, are equal.
use Rattle.std.specs.Prelude.{◌≡◌, ◌≢◌, List, [], ◌∷◌, Bool, false, map, suc, zero, Contains, AllPairs, refl}
use Rattle.std.specs.List.{IsDistinct}
use mathlib.Core.Logic.{inl, inr}
use mathlib.Core.Path.{sym, ap, ap₂, subst, ◌∙◌}
use native.Mathlib.Omega.{arith}
use Rattle.x12_profile.proofs.ListLemmas.{all_in}
use Rattle.x12_numbers.proofs.Shelf.{contains_cons, contains_head, contains_tail, contains_mapped, none_in_nil}
use Rattle.x12_station.proofs.ListLemmas.{contains_map}

-- no key stands twice
abbrev pub AreApart : {K : Type 0} → List K → Type 0
AreApart [] = Unit {0}
AreApart {K} (k ∷ ks) = ((l : K) → Contains ks l → l ≢ k) × AreApart ks

heads : {K : Type 0} (x y : K) (xs ys : List K) → x ∷ xs ≡ y ∷ ys → x ≡ y
heads x y xs ys e = cc

tails : {K : Type 0} (x y : K) (xs ys : List K) → x ∷ xs ≡ y ∷ ys → xs ≡ ys
tails x y xs ys e = cc

module _ {X K : Type 0} (key : X → K) where
  differs : (x : X) (xs : List X) → ((y : X) → Contains xs y → key y ≢ key x) → (k : K) → Contains (map key xs) k → k ≢ key x
  differs x xs apart k at same = let from = contains_map key xs k at in apart from.0 from.1 (from.2 ∙ same)

  pub apart_by_pairs : (R : X → X → Type 0) (xs : List X) → ((a b : X) → Contains xs a → Contains xs b → R a b → key b ≢ key a) → AllPairs R xs → AreApart (map key xs)
  apart_by_pairs R [] apart pairs = tt
  apart_by_pairs R (x ∷ xs) apart pairs = (
    differs x xs (λ y at. apart x y (contains_head x xs) (contains_tail y x xs at) (subst (R x) at.2 (pairs zero (suc at.0) y (omega arith) (let low = at.1 in omega (arith, low))))),
    apart_by_pairs R xs (λ a b there here. apart a b (contains_tail a x xs there) (contains_tail b x xs here)) (λ i j d lt within. pairs (suc i) (suc j) d (omega (arith, lt)) (omega (arith, within))),
  )

  pub apart_if_distinct : (same : X → X → Bool) (xs : List X) → ((a b : X) → Contains xs a → Contains xs b → same a b ≡ false → key b ≢ key a) → IsDistinct same xs → AreApart (map key xs)
  unfolding IsDistinct
  apart_if_distinct same [] apart distinct = tt
  apart_if_distinct same (x ∷ xs) apart distinct = (
    differs x xs (λ y at. apart x y (contains_head x xs) (contains_tail y x xs at) (all_in (λ y. same x y ≡ false) xs y distinct.0 at)),
    apart_if_distinct same xs (λ a b there here. apart a b (contains_tail a x xs there) (contains_tail b x xs here)) distinct.1,
  )

  -- one element for a key
  pub one_for_key : (xs : List X) → AreApart (map key xs) → (a b : X) → Contains xs a → Contains xs b → key a ≡ key b → a ≡ b
  one_for_key [] apart a b at there same = none_in_nil a at
  one_for_key (x ∷ xs) apart a b at there same = elim (contains_cons a x xs at) [
    | inl first ↦ elim (contains_cons b x xs there) [
      | inl other ↦ sym first ∙ other
      | inr later ↦ absurd (apart.0 (key b) (contains_mapped key xs b later) (sym same ∙ ap key (sym first)))
    ]
    | inr later ↦ elim (contains_cons b x xs there) [
      | inl other ↦ absurd (apart.0 (key a) (contains_mapped key xs a later) (same ∙ ap key (sym other)))
      | inr more ↦ one_for_key xs apart.1 a b later more same
    ]
  ]

  -- an element of this key in both lists
  abbrev pub IsInBoth : List X → List X → K → Type 0
  IsInBoth xs ys k = (e : X) × (key e ≡ k) × Contains xs e × Contains ys e

  -- the first of both, and what is in both behind it
  pub same_lists : (xs ys : List X) → map key xs ≡ map key ys → AreApart (map key ys) → ((y : X) → Contains ys y → IsInBoth xs ys (key y)) → xs ≡ ys
  same_lists [] [] keys apart both = refl
  same_lists [] (y ∷ ys) keys apart both = absurd cc
  same_lists (x ∷ xs) [] keys apart both = absurd cc
  same_lists (x ∷ xs) (y ∷ ys) keys apart both =
      let head = heads (key x) (key y) (map key xs) (map key ys) keys in
      let rest = tails (key x) (key y) (map key xs) (map key ys) keys in
      let one = both y (contains_head y ys) in
      let first : x ≡ y = elim (contains_cons one.0 x xs one.2) [
        | inl is ↦ elim (contains_cons one.0 y ys one.3) [
          | inl other ↦ is ∙ sym other
          | inr later ↦ absurd (apart.0 (key one.0) (contains_mapped key ys one.0 later) one.1)
        ]
        | inr later ↦ absurd (apart.0 (key one.0) (subst (λ l. Contains l (key one.0)) rest (contains_mapped key xs one.0 later)) one.1)
      ] in
      ap₂ (λ (a : X) (l : List X). a ∷ l) first (same_lists xs ys rest apart.1 (λ z at.
      let w = both z (contains_tail z y ys at) in
      let other = apart.0 (key z) (contains_mapped key ys z at) in
      (w.0, w.1, behind x xs w.0 w.2 (λ is. other (sym w.1 ∙ ap key (sym is) ∙ head)), behind y ys w.0 w.3 (λ is. other (sym w.1 ∙ ap key (sym is))))))
    where
      behind : (a : X) (l : List X) (e : X) → Contains (a ∷ l) e → a ≢ e → Contains l e
      behind a l e at not = elim (contains_cons e a l at) [ inl is ↦ absurd (not is) | inr later ↦ later ]
