-- The numbers of submissions and of first arrivals come in turn, where each number is that of one of them.
use Rattle.std.proofs.Common.{◌≡◌, ◌≢◌, ◌⊎◌, ◌<◌, ◌≤◌, ◌+◌, ◌++◌, ◌∙◌, ◌==◌, ℕ, zero, suc, inl, inr, cond, List, [], ◌∷◌, map, All, AllPairs, refl, sym, ap, subst, arith, ne_eqb}
use Rattle.std.specs.List.{sum_by, range_with_len}
use Rattle.std.proofs.lemmas.List.Elements.{All-cons, All-head, All-tail}
use Rattle.std.proofs.lemmas.List.Sorted.{sum_by-IsPermutation}
use Rattle.std.proofs.lemmas.List.Sums.{sum_by-cons, sum_by-append}
use Rattle.x12_numbers.proofs.Shelf.{eq_itself, pairs_to_map}
use Rattle.x12_station.specs.Stored.{Stored, StoredSubmission, StoredArrival, IsSound}
use Rattle.x12_station_records.proofs.StationTaken.{pairs_head, pairs_tail}
use Rattle.x12_station_records.specs.StationTaken.{AreInTurn}

abbrev one_if : ℕ → ℕ → ℕ
one_if k x = cond (x == k) 1 0

-- how many times a number stands in a list
abbrev times : ℕ → List ℕ → ℕ
times k xs = sum_by (one_if k) xs

here : (k : ℕ) (xs : List ℕ) → times k (k ∷ xs) ≡ 1 + times k xs
here k xs = sum_by-cons (one_if k) k xs ∙ ap (λ b. cond b 1 0 + times k xs) (eq_itself k)

other : (k x : ℕ) (xs : List ℕ) → x ≢ k → times k (x ∷ xs) ≡ times k xs
other k x xs differ = let e = sum_by-cons (one_if k) x xs ∙ ap (λ b. cond b 1 0 + times k xs) (ne_eqb x k differ) in omega (arith, e)

-- either way it isn't less often with one number more
more_often : (k x : ℕ) (xs : List ℕ) → times k xs ≤ times k (x ∷ xs)
more_often k x xs = omega (arith, sum_by-cons (one_if k) x xs)

never_above : (k : ℕ) (xs : List ℕ) → All (λ x. k < x) xs → times k xs ≡ 0
never_above k [] above = refl
never_above k (x ∷ xs) above =
    let up = All-head (λ y. k < y) x xs above in
    other k x xs (λ same. absurd (omega (arith, up, same))) ∙ never_above k xs (All-tail (λ y. k < y) x xs above)

-- each of so many numbers from this one on stands once in one of the lists, and no other number does
record EachOnce (left next : ℕ) (xs ys : List ℕ) : Type 0 where
  within : (k : ℕ) → next ≤ k → k < next + left → times k xs + times k ys ≡ 1
  below : (k : ℕ) → k < next → times k xs + times k ys ≡ 0
  above : (k : ℕ) → next + left ≤ k → times k xs + times k ys ≡ 0

low_or_not : (a b : ℕ) → (a < b) ⊎ ((a ≡ b) ⊎ (b < a))
low_or_not zero zero = inr (inl refl)
low_or_not zero (suc b) = inl (omega arith)
low_or_not (suc a) zero = inr (inr (omega arith))
low_or_not (suc a) (suc b) = elim (low_or_not a b) [ inl low ↦ inl (omega (arith, low)) | inr (inl same) ↦ inr (inl (ap suc same)) | inr (inr high) ↦ inr (inr (omega (arith, high))) ]

head_in : (left next x : ℕ) (xs ys : List ℕ) → EachOnce left next (x ∷ xs) ys → next ≤ x
head_in left next x xs ys each = elim (low_or_not x next) [
  | inl low ↦ absurd (omega (arith, each.below x low, here x xs))
  | inr (inl same) ↦ omega (arith, same)
  | inr (inr high) ↦ omega (arith, high)
]

turned : (left next : ℕ) (xs ys : List ℕ) → EachOnce left next xs ys → EachOnce left next ys xs
turned left next xs ys each = record {
  within = λ k low high. omega (arith, each.within k low high);
  below = λ k low. omega (arith, each.below k low);
  above = λ k high. omega (arith, each.above k high);
}

-- without the first number
rest_once : (left next : ℕ) (xs ys : List ℕ) → EachOnce (suc left) next (next ∷ xs) ys → EachOnce left (next + 1) xs ys
rest_once left next xs ys each = record {
  within = λ k low high. omega (arith, each.within k (omega (arith, low)) (omega (arith, high)), other k next xs (λ same. absurd (omega (arith, same, low))));
  below = λ k low. elim (low_or_not k next) [
    | inl under ↦ omega (arith, each.below k under, more_often k next xs)
    | inr (inl same) ↦ omega (arith, subst (λ n. times n (next ∷ xs) + times n ys ≡ 1) (sym same) (each.within next (omega arith) (omega arith)), subst (λ n. times n (next ∷ xs) ≡ 1 + times n xs) (sym same) (here next xs))
    | inr (inr high) ↦ absurd (omega (arith, low, high))
  ];
  above = λ k high. omega (arith, each.above k (omega (arith, high)), more_often k next xs);
}

abbrev Rise : List ℕ → Type 0
Rise xs = AllPairs (λ m n. m < n) xs

-- the first of a rising list is the least
first_of : (next x : ℕ) (xs : List ℕ) → next < x → Rise (x ∷ xs) → times next (x ∷ xs) ≡ 0
first_of next x xs low rise = never_above next (x ∷ xs) (λ k d at. up k d at)
  where
    up : All (λ y. next < y) (x ∷ xs)
    up = All-cons (λ y. next < y) x xs low (λ k d at. let a = pairs_head (λ (n : ℕ). n) x xs rise k d at in omega (arith, low, a))

-- the least number is the first one of a list in which it stands
least_first : (left next : ℕ) (ys xs : List ℕ) → EachOnce (suc left) next ys xs → Rise ys → times next ys ≡ 1 → (rest : List ℕ) × (ys ≡ next ∷ rest)
least_first left next [] xs each rise one = absurd cc
least_first left next (y ∷ ys) xs each rise one = elim (low_or_not next y) [
  | inl low ↦ absurd (omega (arith, one, first_of next y ys low rise))
  | inr (inl same) ↦ (ys, ap (λ z. z ∷ ys) (sym same))
  | inr (inr high) ↦ absurd (omega (arith, high, head_in (suc left) next y ys xs each))
]

in_turn : (left next : ℕ) (xs ys : List ℕ) → EachOnce left next xs ys → Rise xs → Rise ys → AreInTurn left next xs ys
in_turn zero next [] [] each rx ry = (refl, refl)
in_turn zero next (x ∷ xs) ys each rx ry = absurd (nobody x xs ys each)
  where
    nobody : (x : ℕ) (xs ys : List ℕ) → EachOnce zero next (x ∷ xs) ys → ⊥
    nobody x xs ys each = elim (low_or_not x next) [
      | inl low ↦ omega (arith, each.below x low, here x xs)
      | inr (inl same) ↦ omega (arith, each.above x (omega (arith, same)), here x xs)
      | inr (inr high) ↦ omega (arith, each.above x (omega (arith, high)), here x xs)
    ]
in_turn zero next [] (y ∷ ys) each rx ry = absurd (
    let head = head_in zero next y ys [] (turned zero next [] (y ∷ ys) each) in
    omega (arith, each.above y (omega (arith, head)), here y ys)
    )
in_turn (suc left) next [] ys each rx ry =
    let one : times next ys ≡ 1 = omega (arith, each.within next (omega arith) (omega arith)) in
    let first = least_first left next ys [] (turned (suc left) next [] ys each) ry one in
    let less = rest_once left next first.0 [] (subst (λ zs. EachOnce (suc left) next zs []) first.1 (turned (suc left) next [] ys each)) in
    inr (first.0, first.1, (λ more same. absurd cc), in_turn left (next + 1) [] first.0 (turned left (next + 1) first.0 [] less) rx (pairs_tail (λ (n : ℕ). n) next first.0 (subst Rise first.1 ry)))
in_turn (suc left) next (x ∷ xs) ys each rx ry = elim (low_or_not next x) [
  | inl low ↦ (
      let one : times next ys ≡ 1 = omega (arith, each.within next (omega arith) (omega arith), first_of next x xs low rx) in
      let back = turned (suc left) next (x ∷ xs) ys each in
      let first = least_first left next ys (x ∷ xs) back ry one in
      let less = rest_once left next first.0 (x ∷ xs) (subst (λ zs. EachOnce (suc left) next zs (x ∷ xs)) first.1 back) in
      inr (first.0, first.1, (λ more same. let head : x ≡ next = cc in absurd (omega (arith, low, head))), in_turn left (next + 1) (x ∷ xs) first.0 (turned left (next + 1) first.0 (x ∷ xs) less) rx (pairs_tail (λ (n : ℕ). n) next first.0 (subst Rise first.1 ry)))
      )
  | inr (inl same) ↦ (
      let less = rest_once left next xs ys (subst (λ z. EachOnce (suc left) next (z ∷ xs) ys) (sym same) each) in
      inl (xs, ap (λ z. z ∷ xs) (sym same), in_turn left (next + 1) xs ys less (pairs_tail (λ (n : ℕ). n) x xs rx) ry)
      )
  | inr (inr high) ↦ absurd (omega (arith, high, head_in (suc left) next x xs ys each))
]

-- A range has each of its numbers once.
outside : (k from left : ℕ) → (k < from) ⊎ (from + left ≤ k) → times k (range_with_len from left) ≡ 0
outside k from zero out = refl
outside k from (suc left) out =
    other k from (range_with_len (from + 1) left) (λ same. elim out [ inl low ↦ omega (arith, low, same) | inr high ↦ omega (arith, high, same) ])
    ∙ outside k (from + 1) left (elim out [ inl low ↦ inl (omega (arith, low)) | inr high ↦ inr (omega (arith, high)) ])

inside : (k from left : ℕ) → from ≤ k → k < from + left → times k (range_with_len from left) ≡ 1
inside k from zero low high = absurd (omega (arith, low, high))
inside k from (suc left) low high = elim (low_or_not from k) [
  | inl under ↦ other k from (range_with_len (from + 1) left) (λ same. absurd (omega (arith, under, same))) ∙ inside k (from + 1) left (omega (arith, under)) (omega (arith, high))
  | inr (inl same) ↦ (
      let first = here from (range_with_len (from + 1) left) in
      let none = outside from (from + 1) left (inl (omega arith)) in
      subst (λ n. times n (from ∷ range_with_len (from + 1) left) ≡ 1) same (omega (arith, first, none))
      )
  | inr (inr over) ↦ absurd (omega (arith, low, over))
]

-- the numbers of sound records come in turn
pub sound_in_turn : (s : Stored) → IsSound s → AreInTurn s.seq 1 (map (λ (r : StoredSubmission). r.seq) s.submitted) (map (λ (r : StoredArrival). r.seq) s.arrived)
sound_in_turn s sound =
    let xs = map (λ (r : StoredSubmission). r.seq) s.submitted in
    let ys = map (λ (r : StoredArrival). r.seq) s.arrived in
    let count : (k : ℕ) → times k xs + times k ys ≡ times k (range_with_len 1 s.seq) = λ k. sym (sum_by-append (one_if k) xs ys) ∙ sum_by-IsPermutation (one_if k) (range_with_len 1 s.seq) (xs ++ ys) sound.numbered.each in
    in_turn s.seq 1 xs ys (record {
      within = λ k low high. count k ∙ inside k 1 s.seq low high;
      below = λ k low. count k ∙ outside k 1 s.seq (inl low);
      above = λ k high. count k ∙ outside k 1 s.seq (inr high);
    }) (pairs_to_map (λ (r : StoredSubmission). r.seq) (λ m n. m < n) s.submitted sound.numbered.submitted) (pairs_to_map (λ (r : StoredArrival). r.seq) (λ m n. m < n) s.arrived sound.numbered.arrived)
