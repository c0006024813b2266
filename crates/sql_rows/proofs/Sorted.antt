-- A list that is sorted by a number, and has the elements of one that rises by it, is that one.
use Rattle.std.proofs.Common.{◌≡◌, ◌≤◌, ◌<◌, ◌==◌, ◌+◌, nat_le, ℕ, zero, suc, pos, slice_index_or, List, [], ◌∷◌, length, map, filter, true, false, refl, sym, subst, ◌∙◌, inl, inr, arith, All, IsPermutation, IsSorted}
use Rattle.std.specs.Bool.{⊤}
use Rattle.std.specs.Ordering.{is_lt}
use Rattle.std.proofs.lemmas.Bool.{cases_Bool}
use Rattle.std.proofs.lemmas.Bool.Decides.{nat_tests}
use Rattle.std.proofs.lemmas.List.Sorted.{All-permutation, IsPermutation-refl, IsPermutation-sym, IsPermutation-trans, IsPermutation-cons, IsPermutation-middle}
use Rattle.sqlite_trees.proofs.ListLemmas.{IsPermutation-filter}
use Rattle.std.specs.List.{AllByRecursion}
use Rattle.std.proofs.lemmas.Bool.{cases_lt}
use Rattle.sqlite.specs.declared.types.Value.TheVariants.{Int}
use Rattle.sqlite.specs.Collation.TheVariants.{Binary}
use Rattle.sqlite.specs.Order.{Row, column}
use Rattle.sqlite.specs.Query.{Query, Output, output_cmp}
use Rattle.sql_rows.specs.Keyed.{number_in, key_in, put_by_key, by_key, with_id, RisesFrom, AreRows}
use Rattle.sql_rows.proofs.Places.{less}
use Rattle.sql_rows.proofs.Selects.{few}

module _ {A : Type 0} (key : A → ℕ) where
  abbrev pub Rises : ℕ → List A → Type 0
  Rises n [] = ⊤
  Rises n (x ∷ xs) = (n < key x) × Rises (key x) xs

  abbrev pub Stays : ℕ → List A → Type 0
  Stays n [] = ⊤
  Stays n (x ∷ xs) = (n ≤ key x) × Stays (key x) xs

  abbrev with_key : ℕ → List A → List A
  with_key k = filter (λ a. key a == k)

  stay : (n : ℕ) (xs : List A) → Rises n xs → Stays n xs
  stay n [] h = tt
  stay n (x ∷ xs) h = (omega (arith, h.0), stay (key x) xs h.1)

  apart : (a k : ℕ) → k < a → (a == k) ≡ false
  apart a k h = grind (arith, nat_tests)

  alike : (a : ℕ) → (a == a) ≡ true
  alike a = grind (arith, nat_tests)

  none_below : (k n : ℕ) (xs : List A) → Stays n xs → k < n → with_key k xs ≡ []
  none_below k n [] h low = refl
  none_below k n (x ∷ xs) h low = rw (apart (key x) k (omega (arith, h.0, low))) (none_below k (key x) xs h.1 (omega (arith, h.0, low)))

  low_one : (n : ℕ) (xs : List A) (k : ℕ) → Rises n xs → length (with_key k xs) ≤ 1
  low_one n [] k h = omega arith
  low_one n (x ∷ xs) k h = elim (cases_Bool (key x == k)) [
    | inl yes1 ↦ (let same : key x ≡ k = grind (arith, nat_tests, yes1) in let rest : with_key k xs ≡ [] = tail_none x xs k same h.1 in rw (yes1, rest) (omega arith))
    | inr no1 ↦ rw no1 (low_one (key x) xs k h.1)
  ]
    where
      tail_none : (x : A) (xs : List A) (k : ℕ) → key x ≡ k → Rises (key x) xs → with_key k xs ≡ []
      tail_none x [] k same h = refl
      tail_none x (y ∷ ys) k same h = rw (apart (key y) k (omega (arith, same, h.0))) (none_below k (key y) ys (stay (key y) ys h.1) (omega (arith, same, h.0)))

  go : (n m : ℕ) (xs ys : List A) → Rises n xs → Stays m ys → ((k : ℕ) → with_key k ys ≡ with_key k xs) → ys ≡ xs
  go n m [] [] rise stays same = refl
  go n m [] (y ∷ ys) rise stays same = absurd (let e = rw (alike (key y)) at (same (key y)) in cc)
  go n m (x ∷ xs) [] rise stays same = absurd (let e = rw (alike (key x)) at (same (key x)) in cc)
  go n m (x ∷ xs) (y ∷ ys) rise stays same = elim (cases_lt (key y) (key x)) [
    | inl low ↦ (let full : with_key (key y) (y ∷ ys) ≡ y ∷ with_key (key y) ys = rw (alike (key y)) refl in
        let e : y ∷ with_key (key y) ys ≡ [] = sym full ∙ same (key y) ∙ none_below (key y) (key x) (x ∷ xs) (omega arith, stay (key x) xs rise.1) low in absurd cc)
    | inr more ↦ elim (cases_lt (key x) (key y)) [
      | inl low ↦ (let full : with_key (key x) (x ∷ xs) ≡ x ∷ with_key (key x) xs = rw (alike (key x)) refl in
          let e : x ∷ with_key (key x) xs ≡ [] = sym full ∙ sym (same (key x)) ∙ none_below (key x) (key y) (y ∷ ys) (omega arith, stays.1) low in absurd cc)
      | inr less ↦ (let keys : key y ≡ key x = omega (arith, more, less) in
          let fx : with_key (key x) (x ∷ xs) ≡ x ∷ with_key (key x) xs = rw (alike (key x)) refl in
          let fy : with_key (key x) (y ∷ ys) ≡ y ∷ with_key (key x) ys = rw (keys, alike (key x)) refl in
          let e : y ∷ with_key (key x) ys ≡ x ∷ with_key (key x) xs = sym fy ∙ same (key x) ∙ fx in
          let head : y ≡ x = cc in
          let tails : (k : ℕ) → with_key k ys ≡ with_key k xs = λ k. tail_same k x y xs ys keys (same k) in
          rw (head, go (key x) (key y) xs ys rise.1 stays.1 tails) refl)
    ]
  ]
    where
      tail_same : (k : ℕ) (x y : A) (xs ys : List A) → key y ≡ key x → with_key k (y ∷ ys) ≡ with_key k (x ∷ xs) → with_key k ys ≡ with_key k xs
      tail_same k x y xs ys keys h = elim (cases_Bool (key x == k)) [
        | inl yes1 ↦ (let fx : with_key k (x ∷ xs) ≡ x ∷ with_key k xs = rw yes1 refl in let fy : with_key k (y ∷ ys) ≡ y ∷ with_key k ys = rw (keys, yes1) refl in
            let e : y ∷ with_key k ys ≡ x ∷ with_key k xs = sym fy ∙ h ∙ fx in cc)
        | inr no1 ↦ (let fx : with_key k (x ∷ xs) ≡ with_key k xs = rw no1 refl in let fy : with_key k (y ∷ ys) ≡ with_key k ys = rw (keys, no1) refl in sym fy ∙ h ∙ fx)
      ]

  pub rising_is : (n m : ℕ) (xs ys : List A) → Rises n xs → Stays m ys → IsPermutation xs ys → ys ≡ xs
  rising_is n m xs ys rise stays moved = go n m xs ys rise stays (λ k. few (with_key k xs) (with_key k ys) (low_one n xs k rise) (IsPermutation-filter (λ a. key a == k) xs ys moved))

-- ---- ORDER BY one column of integers

abbrev pub key_of : Output → ℕ
key_of o = number_in (column o.0 0)

abbrev pub HasKey : Output → Type 0
HasKey o = o.0 ≡ Int (pos (key_of o)) ∷ []

all_there : (xs : List Output) → AllByRecursion HasKey xs → All HasKey xs
all_there [] keys = λ i d low. absurd (omega (arith, low))
all_there (x ∷ xs) keys = λ i d low. at_each x xs keys i d low
  where
    at_each : (x : Output) (xs : List Output) → AllByRecursion HasKey (x ∷ xs) → (i : ℕ) (d : Output) → i < length (x ∷ xs) → HasKey (slice_index_or (x ∷ xs) i d)
    at_each x xs keys zero d low = keys.0
    at_each x [] keys (suc i) d low = absurd (omega (arith, low))
    at_each x (y ∷ ys) keys (suc i) d low = at_each y ys keys.1 i d (omega (arith, low))

each_there : (xs : List Output) → All HasKey xs → AllByRecursion HasKey xs
each_there [] all = tt
each_there (x ∷ xs) all = (all 0 x (omega arith), each_there xs (λ i d low. all (suc i) d (omega (arith, low))))

all_moved : (xs ys : List Output) → IsPermutation xs ys → AllByRecursion HasKey xs → AllByRecursion HasKey ys
all_moved xs ys moved keys = each_there ys (All-permutation HasKey xs ys moved (all_there xs keys))

module _ (q : Query) (by_one : map (λ k. k.1) q.order ≡ record { collation = Binary; descending = false } ∷ []) where
  in_order : (x y : Output) → HasKey x → HasKey y → is_lt (output_cmp q y x) ≡ false → key_of x ≤ key_of y
  in_order x y hx hy h = elim (cases_lt (key_of y) (key_of x)) [
    | inl low ↦ absurd (let e = rw (by_one, hx, hy, less (key_of y) (key_of x) low) at h in cc)
    | inr more ↦ more
  ]

  stays_from : (n : ℕ) (x : Output) (xs : List Output) → n ≤ key_of x → AllByRecursion HasKey (x ∷ xs) → IsSorted (output_cmp q) (x ∷ xs) → Stays key_of n (x ∷ xs)
  stays_from n x [] low keys sorted = (low, tt)
  stays_from n x (y ∷ ys) low keys sorted =
      let first = sorted 0 x (omega arith) (omega arith) in (
        low,
        stays_from (key_of x) y ys (in_order x y keys.0 keys.1.0 first) keys.1 (λ k d lo hi.
            let next : suc k + 1 ≡ suc (k + 1) = omega arith in
            subst (λ j. is_lt (output_cmp q (slice_index_or (x ∷ y ∷ ys) j d) (slice_index_or (y ∷ ys) k d)) ≡ false) next (sorted (suc k) d (omega arith) (omega (arith, hi)))),
      )

  pub sorted_stays : (xs : List Output) → AllByRecursion HasKey xs → IsSorted (output_cmp q) xs → Stays key_of 0 xs
  sorted_stays [] keys sorted = tt
  sorted_stays (x ∷ xs) keys sorted = stays_from 0 x xs (omega arith) keys sorted

  -- what ORDER BY makes of outputs whose keys rise is these
  pub ordered_is : (xs ordered : List Output) → AllByRecursion HasKey xs → Rises key_of 0 xs → IsPermutation xs ordered → IsSorted (output_cmp q) ordered → ordered ≡ xs
  ordered_is xs ordered keys rise moved sorted =
      rising_is key_of 0 0 xs ordered rise (sorted_stays ordered (all_moved xs ordered moved keys) sorted) moved

-- ---- rows by their key

module _ where
  put_same : (r : Row) (rows : List Row) → IsPermutation (r ∷ rows) (put_by_key r rows)
  put_same r [] = IsPermutation-refl (r ∷ [])
  put_same r (x ∷ xs) = elim (cases_Bool (nat_le (key_in r) (key_in x))) [
    | inl yes1 ↦ rw yes1 (IsPermutation-refl (r ∷ x ∷ xs))
    | inr no1 ↦ rw no1 (IsPermutation-trans _ _ _ (IsPermutation-middle (r ∷ []) x xs) (IsPermutation-cons x _ _ (put_same r xs)))
  ]

  sorted_same : (rows : List Row) → IsPermutation rows (by_key rows)
  sorted_same [] = IsPermutation-refl []
  sorted_same (r ∷ rows) = IsPermutation-trans _ _ _ (IsPermutation-cons r _ _ (sorted_same rows)) (put_same r (by_key rows))

  put_stays : (n : ℕ) (r : Row) (rows : List Row) → n ≤ key_in r → Stays key_in n rows → Stays key_in n (put_by_key r rows)
  put_stays n r [] low h = (low, tt)
  put_stays n r (x ∷ xs) low h = elim (cases_Bool (nat_le (key_in r) (key_in x))) [
    | inl yes1 ↦ (let up : key_in r ≤ key_in x = grind (arith, nat_tests, yes1) in rw yes1 (low, (up, h.1)))
    | inr no1 ↦ (let up : key_in x ≤ key_in r = grind (arith, nat_tests, no1) in rw no1 (h.0, put_stays (key_in x) r xs up h.1))
  ]

  sorted_stays_by_key : (rows : List Row) → Stays key_in 0 (by_key rows)
  sorted_stays_by_key [] = tt
  sorted_stays_by_key (r ∷ rows) = put_stays 0 r (by_key rows) (omega arith) (sorted_stays_by_key rows)

module _ {X : Type 0} (enc : X → Row) where
  keys_rise : (n : ℕ) (at : List (ℕ × X)) → RisesFrom n at → Rises key_in n (map (with_id enc) at)
  keys_rise n [] h = tt
  keys_rise n (x ∷ at) h = (h.0, keys_rise x.0 at h.1)

  -- whatever the tree's order, by their keys the rows are those of the values
  pub by_key_is : (at : List (ℕ × X)) (rows : List Row) → AreRows enc at rows → by_key rows ≡ map (with_id enc) at
  by_key_is at rows h =
      rising_is key_in 0 0 (map (with_id enc) at) (by_key rows) (keys_rise 0 at h.rise) (sorted_stays_by_key rows)
      (IsPermutation-trans _ _ _ (IsPermutation-sym _ _ h.same) (sorted_same rows))

  abbrev next_key : Row → ℕ
  next_key r = key_in r + 1

  lifted : (n : ℕ) (at : List (ℕ × X)) → RisesFrom n at → Rises next_key (n + 1) (map (with_id enc) at)
  lifted n [] h = tt
  lifted n (x ∷ at) h = (omega (arith, h.0), lifted x.0 at h.1)

  stays_lifted : (n : ℕ) (rows : List Row) → Stays key_in n rows → Stays next_key (n + 1) rows
  stays_lifted n [] h = tt
  stays_lifted n (r ∷ rows) h = (omega (arith, h.0), stays_lifted (key_in r) rows h.1)

  -- the same where the first key may be 0
  pub by_key_from : (x : ℕ × X) (at : List (ℕ × X)) (rows : List Row) → IsPermutation rows (map (with_id enc) (x ∷ at)) → RisesFrom x.0 at → by_key rows ≡ map (with_id enc) (x ∷ at)
  by_key_from x at rows same rise =
      rising_is next_key 0 1 (map (with_id enc) (x ∷ at)) (by_key rows) (omega arith, lifted x.0 at rise) (stays_lifted 0 (by_key rows) (sorted_stays_by_key rows))
      (IsPermutation-trans _ _ _ (IsPermutation-sym _ _ same) (sorted_same rows))
