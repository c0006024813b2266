-- A plan that turns sound records into sound ones leaves their marks in their order.
use Rattle.std.proofs.Common.{◌≡◌, ◌≤◌, ◌+◌, ℕ, [], ◌∷◌, length, map, refl, arith}
use Rattle.std.specs.List.{range_with_len}
use Rattle.std.proofs.lemmas.List.{length-append, length-map}
use Rattle.std.proofs.lemmas.List.FromFn.{length-range_with_len}
use Rattle.std.proofs.lemmas.List.Sorted.{length_permutation}
use Rattle.x12_station.specs.Plan.{Commit, Change, Submits, Files, Agrees, TakesNumbers, changed, stored_after}
use Rattle.x12_station.specs.Stored.{Origin, Stored, StoredArrival, StoredSubmission, IsSound, row_of_entry, seqs}
use Rattle.x12_station_records.specs.StationChange.{arrival_of}
use Rattle.x12_station_records.specs.StationNumbers.{AreMarked, numbers_kept_of}

-- how many submissions and first arrivals there are
abbrev many : Stored → ℕ
many s = length s.submitted + length s.arrived

last_is : (s : Stored) → IsSound s → s.seq ≡ many s
last_is s sound =
    let same = length_permutation (range_with_len 1 s.seq) (seqs s) sound.numbered.each in
    let last = length-range_with_len 1 s.seq in
    let all = length-append (map (λ (r : StoredSubmission). r.seq) s.submitted) (map (λ (r : StoredArrival). r.seq) s.arrived) in
    let sent = length-map s.submitted (λ (r : StoredSubmission). r.seq) in
    let came = length-map s.arrived (λ (r : StoredArrival). r.seq) in
    omega (arith, same, last, all, sent, came)

grows : (seq : ℕ) (change : Change) (s : Stored) → many s ≤ many (changed seq change s)
grows seq (Submits e) s = let more = length-append s.submitted (row_of_entry seq e ∷ []) in omega (arith, more)
grows seq (Files k settled) s = let more = length-append s.arrived (arrival_of seq k.filed ∷ []) in omega (arith, more)
grows seq (Agrees a) s = omega arith
grows seq TakesNumbers s = omega arith

origin_stays : (seq : ℕ) (change : Change) (s : Stored) → (changed seq change s).origin ≡ s.origin
origin_stays seq (Submits e) s = refl
origin_stays seq (Files k settled) s = refl
origin_stays seq (Agrees a) s = refl
origin_stays seq TakesNumbers s = refl

pub marks_stay : (plan : Commit) (s : Stored) → IsSound s → IsSound (stored_after plan s) → AreMarked (numbers_kept_of s) → AreMarked (numbers_kept_of (stored_after plan s))
marks_stay plan s sound after marked =
    let rises : s.seq ≤ plan.seq = let was = last_is s sound in let is = last_is (stored_after plan s) after in let more = grows plan.seq plan.change s in omega (arith, was, is, more) in
    let same = origin_stays plan.seq plan.change s in
    by (changed plan.seq plan.change s).origin same rises
  where
    by : (o : Origin) → o ≡ s.origin → s.seq ≤ plan.seq → AreMarked (record { origin = o; book = plan.book; seq = plan.seq; handed = (changed plan.seq plan.change s).handed })
    by o is rises = rw is (record { noted = marked.noted; era = omega (arith, marked.era, rises) })
