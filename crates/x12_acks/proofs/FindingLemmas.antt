-- Finding by number in lists whose numbers differ.
use Rattle.std.proofs.Common.{◌≡◌, ◌++◌, ◌∷◌, [], List, Bool, true, false, refl, subst, cond, append_assoc, ◌∙◌}
use Rattle.std.specs.Prelude.{Option, Some, find, filter}
use Rattle.std.specs.List.{AllByRecursion, IsDistinct}
use Rattle.x12_numbers.proofs.Shelf.{all_and_one}

pub find_past : {K : Type 0} (p : K → Bool) (front rest : List K) → AllByRecursion (λ k. p k ≡ false) front → find p (front ++ rest) ≡ find p rest
find_past p [] rest none = refl
find_past p (k ∷ front) rest none = rw none.0 (find_past p front rest none.1)

pub find_here : {K : Type 0} (p : K → Bool) (k : K) (rest : List K) → p k ≡ true → find p (k ∷ rest) ≡ Some k
find_here p k rest is = rw is refl

in_front_by : {K : Type 0} (b : Bool) (j k : K) (found further : Option K) → (found ≡ Some k → further ≡ Some k) → cond b (Some j) found ≡ Some k → cond b (Some j) further ≡ Some k
in_front_by true j k found further go is = is
in_front_by false j k found further go is = go is

pub find_in_front : {K : Type 0} (p : K → Bool) (front rest : List K) (k : K) → find p front ≡ Some k → find p (front ++ rest) ≡ Some k
find_in_front p [] rest k is = absurd (cc)
find_in_front p (j ∷ front) rest k is = in_front_by (p j) j k (find p front) (find p (front ++ rest)) (find_in_front p front rest k) is

-- each of these has this relation to the first and to the others
heads : {K : Type 0} (R : K → K → Type 0) (k : K) (ks front : List K) → AllByRecursion (λ p. AllByRecursion (R p) (k ∷ ks)) front → AllByRecursion (λ p. R p k) front
heads R k ks [] all = tt
heads R k ks (p ∷ front) all = (all.0.0, heads R k ks front all.1)

tails : {K : Type 0} (R : K → K → Type 0) (k : K) (ks front : List K) → AllByRecursion (λ p. AllByRecursion (R p) (k ∷ ks)) front → AllByRecursion (λ p. AllByRecursion (R p) ks) front
tails R k ks [] all = tt
tails R k ks (p ∷ front) all = (all.0.1, tails R k ks front all.1)

found_behind : {K : Type 0} (same : K → K → Bool) (front ks : List K) → AllByRecursion (λ p. AllByRecursion (λ k. same p k ≡ false) ks) front → IsDistinct same ks → AllByRecursion (λ k. same k k ≡ true) ks → AllByRecursion (λ k. find (λ j. same j k) (front ++ ks) ≡ Some k) ks
unfolding IsDistinct
found_behind same front [] others distinct itself = tt
found_behind same front (k ∷ ks) others distinct itself = (
  find_past (λ j. same j k) front (k ∷ ks) (heads (λ p j. same p j ≡ false) k ks front others) ∙ find_here (λ j. same j k) k ks itself.0,
  subst (λ all. AllByRecursion (λ j. find (λ i. same i j) all ≡ Some j) ks) (append_assoc front (k ∷ []) ks)
      (found_behind same (front ++ k ∷ []) ks (all_and_one (λ p. AllByRecursion (λ j. same p j ≡ false) ks) front k (tails (λ p j. same p j ≡ false) k ks front others) distinct.0) distinct.1 itself.1),
)

-- in a list without equal ones each finds itself
pub each_found : {K : Type 0} (same : K → K → Bool) (ks : List K) → IsDistinct same ks → AllByRecursion (λ k. same k k ≡ true) ks → AllByRecursion (λ k. find (λ j. same j k) ks ≡ Some k) ks
each_found same ks distinct itself = found_behind same [] ks tt distinct itself

pub filter_none : {K : Type 0} (p : K → Bool) (ks : List K) → AllByRecursion (λ k. p k ≡ false) ks → filter p ks ≡ []
filter_none p [] none = refl
filter_none p (k ∷ ks) none = rw none.0 (filter_none p ks none.1)

pub all_map : {K : Type 0} {P Q : K → Type 0} (f : (k : K) → P k → Q k) (ks : List K) → AllByRecursion P ks → AllByRecursion Q ks
all_map f [] all = tt
all_map f (k ∷ ks) all = (f k all.0, all_map f ks all.1)

pub all_true : {K : Type 0} (P : K → Type 0) (f : (k : K) → P k) (ks : List K) → AllByRecursion P ks
all_true P f [] = tt
all_true P f (k ∷ ks) = (f k, all_true P f ks)
