-- Rows under numbers that SQLite has as integers, asked for by any number.
use Rattle.std.proofs.Common.{◌≡◌, ◌≤◌, ◌<◌, ◌+◌, ◌-◌, ◌^◌, ℕ, zero, suc, List, [], ◌∷◌, nat_lt, length, map, slice_get, None, All, option_map, refl, sym, ◌∙◌, inl, inr, arith}
use Rattle.std.specs.List.{enumerate_from, range_with_len}
use Rattle.std.proofs.lemmas.Bool.{cases_Bool}
use Rattle.std.proofs.lemmas.Bool.Decides.{nat_tests}
use Rattle.std.proofs.lemmas.List.Elements.{All-cons}
use Rattle.std.proofs.lemmas.List.Sorted.{All-permutation}
use Rattle.x12_numbers.proofs.Shelf.{all_from_map, greater_differs, places_from}
use Rattle.x12_outbound.specs.Entry.{at_place}
use Rattle.x12_station.proofs.SeqLemmas.{all_front, all_behind, all_of_range, under, none_above, none_below}
use Rattle.x12_station.specs.Stored.{Stored, StoredSubmission, StoredArrival, IsSound, seqs}
use Rattle.x12_tables.proofs.KeyLemmas.{level, higher}
use Rattle.x12_station_records.specs.StationFinds.{asked_as, submission_numbered, arrival_numbered}

-- a key is found as it is, and another number as 0, under which nothing stands
pub same_asked : {R : Type 0} (key : R → ℕ) (n : ℕ) (rs : List R) → All (λ r. 0 < key r) rs → All (λ r. key r < 2 ^ 63) rs → under key (asked_as n) rs ≡ under key n rs
same_asked key n rs low high = elim (cases_Bool (nat_lt n (2 ^ 63))) [
  | inl yes1 ↦ rw yes1 refl
  | inr no1 ↦ (let far : 2 ^ 63 ≤ n = grind (arith, nat_tests, no1) in
      rw no1 (none_above key rs 0 low ∙ sym (none_below key rs n (λ i d within. omega (arith, high i d within, far)))))
]

-- The numbers of the history.
module _ (s : Stored) (h : IsSound s) where
  numbers_within : (P : ℕ → Type 0) → ((n : ℕ) → 0 < n → n < 2 ^ 63 → P n) → All P (seqs s)
  numbers_within P each = All-permutation P (range_with_len 1 s.seq) (seqs s) h.numbered.each (all_of_range P 1 s.seq (λ n low high. each n (omega (arith, low)) (omega (arith, high, h.few))))

  submitted_within : (P : ℕ → Type 0) → ((n : ℕ) → 0 < n → n < 2 ^ 63 → P n) → All (λ (r : StoredSubmission). P r.seq) s.submitted
  submitted_within P each = all_from_map (λ (r : StoredSubmission). r.seq) P s.submitted (all_front P (map (λ (r : StoredSubmission). r.seq) s.submitted) (map (λ (r : StoredArrival). r.seq) s.arrived) (numbers_within P each))

  arrived_within : (P : ℕ → Type 0) → ((n : ℕ) → 0 < n → n < 2 ^ 63 → P n) → All (λ (r : StoredArrival). P r.seq) s.arrived
  arrived_within P each = all_from_map (λ (r : StoredArrival). r.seq) P s.arrived (all_behind P (map (λ (r : StoredSubmission). r.seq) s.submitted) (map (λ (r : StoredArrival). r.seq) s.arrived) (numbers_within P each))

  pub submission_asked : (n : ℕ) → submission_numbered s (asked_as n) ≡ submission_numbered s n
  submission_asked n = same_asked (λ (r : StoredSubmission). r.seq) n s.submitted (submitted_within (λ m. 0 < m) (λ m low high. low)) (submitted_within (λ m. m < 2 ^ 63) (λ m low high. high))

  pub arrival_asked : (n : ℕ) → arrival_numbered s (asked_as n) ≡ arrival_numbered s n
  arrival_asked n = same_asked (λ (r : StoredArrival). r.seq) n s.arrived (arrived_within (λ m. 0 < m) (λ m low high. low)) (arrived_within (λ m. m < 2 ^ 63) (λ m low high. high))

-- Places from 1.
module _ {X : Type 0} where
  places_below : (n end : ℕ) (xs : List X) → n + length xs ≤ end → All (λ (x : ℕ × X). x.0 < end) (enumerate_from n xs)
  places_below n end [] h = λ i d within. absurd (omega (arith, within))
  places_below n end (x ∷ xs) h = All-cons (λ (x : ℕ × X). x.0 < end) (n, x) (enumerate_from (n + 1) xs) (omega (arith, h)) (places_below (n + 1) end xs (omega (arith, h)))

  places_above : (xs : List X) → All (λ (x : ℕ × X). 0 < x.0) (enumerate_from 1 xs)
  places_above xs = λ i d within. omega (arith, places_from 1 xs i d within)

  numbered_at : (n k : ℕ) (xs : List X) → option_map (λ (x : ℕ × X). x.1) (under (λ (x : ℕ × X). x.0) (n + k) (enumerate_from n xs)) ≡ slice_get xs k
  numbered_at n k [] = refl
  numbered_at n zero (x ∷ xs) = rw (level n) refl
  numbered_at n (suc k) (x ∷ xs) =
      let next : n + 1 + k ≡ n + suc k = omega arith in
      let more = numbered_at (n + 1) k xs in
      rw (higher n k) (rw next at more)

  none_at_zero : (xs : List X) → under (λ (x : ℕ × X). x.0) 0 (enumerate_from 1 xs) ≡ None
  none_at_zero xs = none_above (λ (x : ℕ × X). x.0) (enumerate_from 1 xs) 0 (places_above xs)

  placed : (n : ℕ) (xs : List X) → option_map (λ (x : ℕ × X). x.1) (under (λ (x : ℕ × X). x.0) n (enumerate_from 1 xs)) ≡ at_place n xs
  placed zero xs = rw (none_at_zero xs) refl
  placed (suc k) xs =
      let e : 1 + k ≡ suc k = omega arith in
      let less : suc k - 1 ≡ k = omega arith in
      rw (greater_differs 0 (suc k) (omega arith), less) (rw e at (numbered_at 1 k xs))

  -- what stands at a place is under its number
  pub place_asked : (n : ℕ) (xs : List X) → length xs < 2 ^ 63 → option_map (λ (x : ℕ × X). x.1) (under (λ (x : ℕ × X). x.0) (asked_as n) (enumerate_from 1 xs)) ≡ at_place n xs
  place_asked n xs few = rw (same_asked (λ (x : ℕ × X). x.0) n (enumerate_from 1 xs) (places_above xs) (places_below 1 (2 ^ 63) xs (omega (arith, few)))) (placed n xs)
