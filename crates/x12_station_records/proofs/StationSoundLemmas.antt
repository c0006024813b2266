-- What sound records of a station have, as the statements ask for it.
use Rattle.std.proofs.Common.{◌≡◌, ◌≤◌, ◌<◌, ◌==◌, ℕ, List, [], ◌∷◌, length, map, filter, All, AllPairs, refl, subst, inl, inr, arith, false}
use Rattle.std.specs.List.{range_with_len}
use Rattle.std.proofs.lemmas.Bool.{cases_Bool}
use Rattle.std.proofs.lemmas.Bool.Decides.{nat_tests}
use Rattle.std.proofs.lemmas.List.Sorted.{All-permutation}
use Rattle.sql_rows.specs.Keyed.{RisesFrom}
use Rattle.x12_acks.specs.Submission.{IsBefore}
use Rattle.x12_numbers.proofs.Shelf.{pairs_from_map, all_from_map}
use Rattle.x12_outbound.specs.Entry.{submission_of_entry}
use Rattle.x12_station.proofs.SeqLemmas.{all_of_range, all_behind, pairs_head, pairs_tail}
use Rattle.x12_station.specs.Stored.{Stored, StoredSubmission, StoredArrival, IsSound, entries, entry_of_row, seqs}
use Rattle.x12_station_records.specs.StationFinds.{SubmittedOnce}
use Rattle.x12_station_records.specs.StationTables.{by_seq}
use Rattle.x12_envelopes.specs.declared.party.Party.{Party}

-- the control numbers of the submissions rise
pub icns_rise : (s : Stored) → IsSound s → AllPairs (λ (p : StoredSubmission) q. p.icn < q.icn) s.submitted
unfolding entries
icns_rise s h =
    let nobody : Party = record { qualifier = []; id = [] } in
    let all = pairs_from_map (entry_of_row s.sets) (λ a b. IsBefore (submission_of_entry nobody a) (submission_of_entry nobody b)) s.submitted (pairs_from_map (submission_of_entry nobody) IsBefore (map (entry_of_row s.sets) s.submitted) (h.in_order nobody).before) in
    λ i j d before within. (all i j d before within).interchange

module _ {X : Type 0} (key : X → ℕ) where
  none_low : (n : ℕ) (xs : List X) → All (λ x. n < key x) xs → filter (λ x. key x == n) xs ≡ []
  none_low n [] h = refl
  none_low n (x ∷ xs) h =
      let above : n < key x = h 0 x (omega arith) in
      let no : (key x == n) ≡ false = grind (arith, nat_tests, above) in
      rw no (none_low n xs (all_behind (λ x. n < key x) (x ∷ []) xs h))

  pub one_low : (n : ℕ) (xs : List X) → AllPairs (λ x y. key x < key y) xs → length (filter (λ x. key x == n) xs) ≤ 1
  one_low n [] h = omega arith
  one_low n (x ∷ xs) h = elim (cases_Bool (key x == n)) [
    | inl yes1 ↦ (let same : key x ≡ n = grind (arith, nat_tests, yes1) in
        let none = none_low n xs (subst (λ k. All (λ y. k < key y) xs) same (pairs_head (λ x y. key x < key y) x xs h)) in
        rw (yes1, none) (omega arith))
    | inr no1 ↦ rw no1 (one_low n xs (pairs_tail (λ x y. key x < key y) x xs h))
  ]

-- no control number is that of two submissions
pub submitted_once : (s : Stored) → IsSound s → SubmittedOnce s
submitted_once s h icn = one_low (λ (r : StoredSubmission). r.icn) icn s.submitted (icns_rise s h)

rises_above : (n : ℕ) (rs : List StoredArrival) → AllPairs (λ (r : StoredArrival) q. r.seq < q.seq) rs → All (λ (r : StoredArrival). n < r.seq) rs → RisesFrom n (map by_seq rs)
rises_above n [] pairs all = tt
rises_above n (r ∷ rs) pairs all = (all 0 r (omega arith), rises_above r.seq rs (pairs_tail (λ (r : StoredArrival) q. r.seq < q.seq) r rs pairs) (pairs_head (λ (r : StoredArrival) q. r.seq < q.seq) r rs pairs))

-- the numbers of the first arrivals rise, from 1 on
pub seqs_rise : (s : Stored) → IsSound s → RisesFrom 0 (map by_seq s.arrived)
seqs_rise s h =
    let counted : All (λ n. 0 < n) (seqs s) = All-permutation (λ n. 0 < n) (range_with_len 1 s.seq) (seqs s) h.numbered.each (all_of_range (λ n. 0 < n) 1 s.seq (λ n low high. omega (arith, low))) in
    let theirs = all_from_map (λ (r : StoredArrival). r.seq) (λ n. 0 < n) s.arrived (all_behind (λ n. 0 < n) (map (λ (r : StoredSubmission). r.seq) s.submitted) (map (λ (r : StoredArrival). r.seq) s.arrived) counted) in
    rises_above 0 s.arrived h.numbered.arrived theirs
