-- the numbers that are left are those of what is left
use Rattle.std.proofs.Common.{ℕ, ◌+◌, ◌-◌, ◌++◌, ◌≤◌, map, IsPermutation}
use Rattle.std.specs.List.{range_with_len}
use Rattle.x12_station_records.specs.StationTaken.{AreInTurn}
use Rattle.x12_station_records.proofs.station_inbound.test_order.Given as goal

abbrev pub invariant-loop-count : goal.invariant-loop-count
invariant-loop-count l = record {
  each : IsPermutation (range_with_len (l.count + 1) (l.last - l.count)) (map (λ (x : ℕ × ℕ). x.1) l.ours ++ l.theirs) → IsPermutation (range_with_len 1 l.last) (map (λ (x : ℕ × ℕ). x.1) l.sent ++ l.arrived);
  within : l.count ≤ l.last;
  turn : AreInTurn l.last 1 (map (λ (x : ℕ × ℕ). x.1) l.sent) l.arrived → AreInTurn (l.last - l.count) (l.count + 1) (map (λ (x : ℕ × ℕ). x.1) l.ours) l.theirs;
}

abbrev pub decreases-loop-count : goal.decreases-loop-count
decreases-loop-count l = l.last - l.count
