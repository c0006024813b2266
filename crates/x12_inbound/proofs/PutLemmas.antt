-- What is put into a list at a place: the order and the elements.
use Rattle.std.proofs.Common.{ℕ, ◌≡◌, ◌∙◌, ◌+◌, ◌-◌, ◌<◌, ◌≤◌, ap, ap₂, sym, subst, refl, zero, suc, Bool, true, false, cond, ◌||◌, List, [], ◌∷◌, ◌++◌, length, get_or, take, drop, map, All, AllPairs, find, None, Some, length-drop, append_assoc, arith}
use Rattle.std.specs.List.{list_any}
use Rattle.std.specs.List.Sorted.{IsPermutation}
use Rattle.std.proofs.lemmas.List.{take-append-drop, get_or-take, get_or-drop, length-take-le, map-append, take-map, drop-map}
use Rattle.std.proofs.lemmas.List.Kept.{AllPairs-cons}
use Rattle.std.proofs.lemmas.List.Elements.{All-append}
use Rattle.std.proofs.lemmas.List.Sorted.{IsPermutation-append_comm, IsPermutation-append_left}

-- pairs in two lists, and across them
pub all_pairs_append : {X : Type 0} (L : X → X → Type 0) (xs ys : List X) → AllPairs L xs → AllPairs L ys
    → All (λ x. All (L x) ys) xs → AllPairs L (xs ++ ys)
all_pairs_append L [] ys left right cross = right
all_pairs_append L (x ∷ xs) ys left right cross =
    AllPairs-cons L x (xs ++ ys)
    (All-append (L x) xs ys (λ j d within. left 0 (suc j) d (omega arith) (omega arith)) (cross 0 x (omega arith)))
    (all_pairs_append L xs ys (λ i j d before within. left (suc i) (suc j) d (omega arith) (omega arith)) right
    (λ k d within. cross (suc k) d (omega arith)))

-- the element at an index, whatever stands in for none
pub get_or-any : {X : Type 0} (xs : List X) (i : ℕ) (d e : X) → i < length xs → get_or xs i d ≡ get_or xs i e
get_or-any [] i d e within = absurd (omega arith)
get_or-any (x ∷ xs) zero d e within = refl
get_or-any (x ∷ xs) (suc i) d e within = get_or-any xs i d e (omega arith)

module _ {X : Type 0} (L : X → X → Type 0) (xs ys : List X) (at : ℕ) (within : at ≤ length xs) (old : AllPairs L xs) (new : AllPairs L ys)
    (before : (k : ℕ) (d : X) → k < at → All (λ y. L (get_or xs k d) y) ys)
    (behind : (k : ℕ) (d : X) → at ≤ k → k < length xs → All (λ y. L y (get_or xs k d)) ys) where
  long : length (take at xs) ≡ at
  long = length-take-le at xs within

  front : AllPairs L (take at xs)
  front i j d lt inside =
      rw (get_or-take at xs i d (omega (arith, long)), get_or-take at xs j d (omega (arith, long)))
      (old i j d lt (omega (arith, long)))

  rest : length (drop at xs) ≡ length xs - at
  rest = length-drop at xs

  back : AllPairs L (drop at xs)
  back i j d lt inside =
      rw (get_or-drop at xs i d, get_or-drop at xs j d)
      (old (at + i) (at + j) d (omega arith) (omega (arith, rest)))

  behind_new : All (λ y. All (L y) (drop at xs)) ys
  behind_new k d inside j e among =
      rw (get_or-drop at xs j e) (behind (at + j) e (omega arith) (omega (arith, rest)) k d inside)

  other : (k : ℕ) (d e : X) → k < at → get_or xs k d ≡ get_or xs k e
  other k d e low = get_or-any xs k d e (omega arith)

  behind_front : All (λ x. All (L x) (ys ++ drop at xs)) (take at xs)
  behind_front k d inside =
      let low : k < at = omega (arith, long) in
      rw (get_or-take at xs k d low)
      (All-append (L (get_or xs k d)) ys (drop at xs) (before k d low)
      (λ j e among. rw (get_or-drop at xs j e, other k d e low) (old k (at + j) e (omega arith) (omega (arith, rest)))))

  -- what is put in its place stands in order
  pub put_in_order : AllPairs L (take at xs ++ (ys ++ drop at xs))
  put_in_order = all_pairs_append L (take at xs) (ys ++ drop at xs) front (all_pairs_append L ys (drop at xs) new back behind_new) behind_front

-- nothing else comes in, and nothing goes
pub put_permutes : {X : Type 0} (xs ys : List X) (at : ℕ) → IsPermutation (ys ++ xs) (take at xs ++ (ys ++ drop at xs))
put_permutes xs ys at =
    let swapped = IsPermutation-append_left (drop at xs) (ys ++ take at xs) (take at xs ++ ys) (IsPermutation-append_comm ys (take at xs)) in
    let from : (ys ++ take at xs) ++ drop at xs ≡ ys ++ xs = append_assoc ys (take at xs) (drop at xs) ∙ ap (λ l. ys ++ l) (take-append-drop at xs) in
    let to : (take at xs ++ ys) ++ drop at xs ≡ take at xs ++ (ys ++ drop at xs) = append_assoc (take at xs) ys (drop at xs) in
    subst (λ l. IsPermutation l (take at xs ++ (ys ++ drop at xs))) from
    (subst (λ l. IsPermutation ((ys ++ take at xs) ++ drop at xs) l) to swapped)

-- what is put into a list of views
pub map_put : {X Y : Type 0} (v : X → Y) (xs ys : List X) (at : ℕ)
    → map v (take at xs ++ (ys ++ drop at xs)) ≡ take at (map v xs) ++ (map v ys ++ drop at (map v xs))
map_put v xs ys at =
    map-append v (take at xs) (ys ++ drop at xs)
    ∙ ap₂ (λ a b. a ++ b) (sym (take-map v at xs)) (map-append v ys (drop at xs) ∙ ap (λ l. map v ys ++ l) (sym (drop-map v at xs)))

-- something passes exactly where something is found
pub none_passes : {X : Type 0} (p : X → Bool) (xs : List X) → find p xs ≡ None → list_any p xs ≡ false
none_passes p [] none = refl
none_passes p (x ∷ xs) none = by (p x) none (λ rest. none_passes p xs rest)
  where
    by : (b : Bool) → cond b (Some x) (find p xs) ≡ None → (find p xs ≡ None → list_any p xs ≡ false) → (b || list_any p xs) ≡ false
    by true some more = absurd (let e : Some x ≡ None = some in cc)
    by false rest more = more rest
