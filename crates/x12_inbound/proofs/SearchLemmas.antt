-- What a binary search finds among elements that are kept in order.
use Rattle.std.proofs.Common.{ℕ, ◌≡◌, ◌∙◌, ◌+◌, ◌<◌, ◌≤◌, sym, zero, suc, Bool, true, false, List, [], ◌∷◌, map, length, get_or, slice_get, None, Err, find, AllPairs, arith, refl, inl, inr}
use Rattle.std.specs.declared.cmp.Ordering.{Ordering}
use Rattle.std.specs.declared.cmp.Ordering.TheVariants.{Less, Equal, Greater}
use Rattle.std.specs.Ordering.{is_eq, is_lt, ordering_reverse}
use Rattle.std.specs.Cmp.{IsTotalOrder}
use Rattle.std.specs.List.{HoldsAt}
use Rattle.std.specs.List.Sorted.{IsSearchInRange, IsBinarySearchResult, IsPartitionPoint}
use Rattle.std.proofs.lemmas.Bool.{cases_lt}
use Rattle.std.proofs.lemmas.Cmp.{alike_right}
use Rattle.std.proofs.lemmas.List.{length-map}
use Rattle.std.proofs.lemmas.List.Sorted.{searchable_from_sorted}
use Rattle.x12_inbound.specs.Place.{IsPlace}
use Rattle.x12_numbers.proofs.Shelf.{find_at, find_none, holds_at_map, pairs_from_map}

-- the element at an index, whatever stands in for none
pub get_or-default : {X : Type 0} (xs : List X) (i : ℕ) (d : X) → i < length xs → get_or xs i d ≡ get_or xs i (get_or xs i d)
get_or-default [] i d within = absurd (omega arith)
get_or-default (x ∷ xs) zero d within = refl
get_or-default (x ∷ xs) (suc i) d within = get_or-default xs i d (omega arith)

pub from_view : {X Y : Type 0} (v : X → Y) (P : Y → Type 0) (xs : List X) (i : ℕ) → i < length xs
    → ((d : Y) → P (get_or (map v xs) i d)) → (d : X) → P (v (get_or xs i d))
from_view v P [] i within holds d = absurd (omega arith)
from_view v P (x ∷ xs) zero within holds d = holds (v d)
from_view v P (x ∷ xs) (suc i) within holds d = from_view v P xs i (omega arith) holds d

-- a part of a list that is split by views
pub split_view : {X Y : Type 0} (v : X → Y) (P Q : Y → Type 0) (xs : List X) (at : ℕ) → at ≤ length xs
    → IsPartitionPoint (λ x. P (v x)) (λ x. Q (v x)) xs at → IsPartitionPoint P Q (map v xs) at
split_view v P Q xs at within split =
    let long = length-map xs v in (
      λ k d low high. holds_at_map v P xs k (omega (arith, within, high)) (λ e. split.0 k e low high) d,
      λ k d low high. holds_at_map v Q xs k (omega (arith, high, long)) (λ e. split.1 k e low (omega (arith, high, long))) d,
    )

not_equal : (o : Ordering) → o ≡ Less → is_eq o ≡ false
not_equal o h = rw h refl

not_equal_above : (o : Ordering) → o ≡ Greater → is_eq o ≡ false
not_equal_above o h = rw h refl

is_equal : (o : Ordering) → o ≡ Equal → is_eq o ≡ true
is_equal o h = rw h refl

pub not_less_back : (o r : Ordering) → o ≡ Less → r ≡ ordering_reverse o → is_lt r ≡ false
not_less_back o r less is = rw (is, less) refl

-- a list with an index in it has an element
pub someone : {X : Type 0} (xs : List X) (i : ℕ) → i < length xs → X
someone [] i within = absurd (omega arith)
someone (x ∷ xs) i within = x

-- neighbours in order, from pairs in order
pub neighbours : {X Y K : Type 0} (v : X → Y) (key : Y → K) (R : K → K → Ordering) (total : IsTotalOrder R) (xs : List X)
    → AllPairs (λ a b. R (key a) (key b) ≡ Less) (map v xs) → (k : ℕ) (d : X) → k + 1 < length xs
    → is_lt (R (key (v (get_or xs (k + 1) d))) (key (v (get_or xs k d)))) ≡ false
neighbours v key R total xs rise k d within =
    let pair = pairs_from_map v (λ a b. R (key a) (key b) ≡ Less) xs rise k (k + 1) d (omega arith) within in
    not_less_back _ _ pair (total.antisymm _ _)

module _ {X Y K : Type 0} (v : X → Y) (key : Y → K) (R : K → K → Ordering) (total : IsTotalOrder R)
    (same : K → K → Bool) (tests : (a b : K) → is_eq (R a b) ≡ same a b) (xs : List X) (x : K) where
  -- the order of each element and the key that is searched
  to_key : X → Ordering
  to_key = λ a. R (key (v a)) x

  module _ (up : (k : ℕ) (d : X) → k + 1 < length xs → is_lt (R (key (v (get_or xs (k + 1) d))) (key (v (get_or xs k d)))) ≡ false) where
    -- where the search missed, the place between what is below and what is above
    pub missed : (i : ℕ) → IsSearchInRange (Err i) (length xs) → IsBinarySearchResult (λ a. R (key (v a)) x) xs (Err i)
        → IsPlace (λ y. R (key y) x) (map v xs) i
    missed i in_range position =
        let rises = searchable_from_sorted total (λ a. key (v a)) xs x (λ k d low within. up k d within) in
        record {
          within = omega (arith, in_range, length-map xs v);
          split = split_view v (λ y. R (key y) x ≡ Less) (λ y. R (key y) x ≡ Greater) xs i in_range (position rises);
        }

  -- at a place that is split nothing is the same
  pub none_same : (i : ℕ) → IsPlace (λ y. R (key y) x) (map v xs) i → find (λ y. same (key y) x) (map v xs) ≡ None
  none_same i place = find_none (λ y. same (key y) x) (map v xs) (λ k d within. elim (cases_lt k i) [
    | inl below ↦ sym (tests _ _) ∙ not_equal _ (place.split.0 k d (omega arith) below)
    | inr above ↦ sym (tests _ _) ∙ not_equal_above _ (place.split.1 k d above within)
  ])

  -- where the search ended at an element, it is the first that is the same
  pub found_same : AllPairs (λ a b. R (key a) (key b) ≡ Less) (map v xs) → (i : ℕ) → i < length xs
      → HoldsAt (λ a. R (key (v a)) x ≡ Equal) xs i → find (λ y. same (key y) x) (map v xs) ≡ slice_get (map v xs) i
  found_same rise i within equal =
      let here = holds_at_map v (λ y. R (key y) x ≡ Equal) xs i within equal in
      let long = length-map xs v in
      find_at (λ y. same (key y) x) (map v xs) i (omega (arith, within, long))
      (λ d. sym (tests _ _) ∙ is_equal _ (here d))
      (λ k d below. sym (tests _ _)
      ∙ not_equal _ (sym (alike_right total _ _ _ (here d)) ∙ rise k i d below (omega (arith, within, long))))
