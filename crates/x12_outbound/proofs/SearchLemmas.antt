-- What a binary search finds among elements whose numbers rise.
use Rattle.std.specs.Result.{result_ok}
use Rattle.std.proofs.Common.{ℕ, ◌≡◌, ◌<◌, ◌≤◌, ◌≢◌, ◌==◌, ap, sym, IfSome, IfNone, List, map, length, get_or, slice_get, Option, None, Result, Ok, Err, MatchResult, find, All, AllPairs, arith}
use Rattle.std.specs.List.Sorted.{IsSearchInRange, IsBinarySearchResult, IsNonDecreasingBy}
use Rattle.std.specs.Ordering.{nat_cmp, ordering_index}
use Rattle.std.proofs.lemmas.Cmp.{ranked}
use Rattle.std.proofs.lemmas.Bool.Decides.{nat_tests}
use Rattle.std.proofs.lemmas.List.{length-map}
use Rattle.std.proofs.lemmas.List.Elements.{All-map}
use Rattle.x12_numbers.proofs.Shelf.{find_at, find_none, holds_at_map, pairs_from_map}

module _ {X : Type 0} (n : X → ℕ) (xs : List X) (rise : AllPairs (λ a b. n a < n b) xs) (x : ℕ) where
  -- the comparisons with x rise along the list, as a binary search asks
  comparisons_rise : IsNonDecreasingBy (λ y. ordering_index (nat_cmp (n y) x)) xs
  comparisons_rise = λ i j d le in_range.
      let keys_rise : n (get_or xs i d) ≤ n (get_or xs j d) = grind (arith, rise i j d, λ (same : i ≡ j). ap (λ k. n (get_or xs k d)) same) in
      grind (arith, nat_tests)

  -- the search ends at the number, or no element has it
  pub searched : (r : Result ℕ ℕ) → IsSearchInRange r (length xs) → IsBinarySearchResult (λ y. nat_cmp (n y) x) xs r
      → MatchResult r (λ i. (i < length xs) × ((d : X) → n (get_or xs i d) ≡ x)) (λ i. All (λ y. n y ≢ x) xs)
  searched (Ok at) in_range equal = (in_range, λ d. ranked _ x _ (sym (equal d)))
  searched (Err at) in_range parted = λ k d within same.
      let below : k < at → n (get_or xs k d) < x = λ lt. ranked _ x _ (sym ((parted comparisons_rise).0 k d (omega arith) lt)) in
      let above : at ≤ k → x < n (get_or xs k d) = λ le. ranked _ x _ (sym ((parted comparisons_rise).1 k d le within)) in
      grind (arith, below, above)

-- what a search by number finds, seen from what the elements stand for
pub record Found {X Y : Type 0} (v : X → Y) (m : Y → ℕ) (xs : List X) (x : ℕ) (o : Option ℕ) : Type 0 where
  pub found : IfSome o (λ i. (i < length xs) × ((d : X) → m (v (get_or xs i d)) ≡ x) × (find (λ y. m y == x) (map v xs) ≡ slice_get (map v xs) i))
  pub none : IfNone o (find (λ y. m y == x) (map v xs) ≡ None)

pub in_map : {X Y : Type 0} (v : X → Y) (m : Y → ℕ) (xs : List X) (x : ℕ) → AllPairs (λ a b. m a < m b) (map v xs)
    → (r : Result ℕ ℕ) → MatchResult r (λ i. (i < length xs) × ((d : X) → m (v (get_or xs i d)) ≡ x)) (λ i. All (λ y. m (v y) ≢ x) xs)
    → Found v m xs x (result_ok r)
in_map v m xs x rise (Ok i) at =
    let here = holds_at_map v (λ y. m y ≡ x) xs i at.0 at.1 in
    let long = length-map xs v in
    record {
      found = (
        at.0,
        at.1,
        find_at (λ y. m y == x) (map v xs) i (omega (arith, long, at.0))
            (λ d. grind (arith, nat_tests, here d))
            (λ k d below. grind (arith, nat_tests, here d, rise k i d below (omega (arith, long, at.0)))),
      );
      none = tt;
    }
in_map v m xs x rise (Err i) absent =
    let other = All-map (λ y. m y ≢ x) v xs absent in
    record {
      found = tt;
      none = find_none (λ y. m y == x) (map v xs) (λ k d within. grind (arith, nat_tests, other k d within));
    }

pub find_by_number : {X Y : Type 0} (v : X → Y) (m : Y → ℕ) (xs : List X) (x : ℕ) → AllPairs (λ a b. m a < m b) (map v xs)
    → (r : Result ℕ ℕ) → IsSearchInRange r (length xs) → IsBinarySearchResult (λ y. nat_cmp (m (v y)) x) xs r
    → Found v m xs x (result_ok r)
find_by_number v m xs x rise r in_range position =
    in_map v m xs x rise r (searched (λ y. m (v y)) xs (pairs_from_map v (λ a b. m a < m b) xs rise) x r in_range position)
