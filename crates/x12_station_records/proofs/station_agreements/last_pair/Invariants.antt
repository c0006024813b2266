use Rattle.std.proofs.Common.{ℕ, drop}
use Rattle.x12_station_records.specs.StationAdopt.{ArePairs}
use Rattle.x12_station_records.proofs.station_agreements.last_pair.Given as goal

abbrev pub invariant-loop-row : goal.invariant-loop-row
invariant-loop-row l =
    ((end : ℕ) → ArePairs l.last end (drop l.row-index l.fn.rows) → ArePairs 0 end l.fn.rows)
    × ((end : ℕ) → ArePairs 0 end l.fn.rows → ArePairs l.last end (drop l.row-index l.fn.rows))
