use Rattle.std.proofs.Common.{ℕ, drop, ◌≡◌, ◌+◌}
use Rattle.x12_station_records.specs.StationAdopt.{AreSetRows}
use Rattle.x12_station_records.proofs.station_outset.next_set.Given as goal

abbrev pub invariant-loop-row : goal.invariant-loop-row
invariant-loop-row l = record {
  place : l.next ≡ l.row-index + 1;
  right : (end : ℕ) → AreSetRows 1 end l.fn.rows → AreSetRows l.next end (drop l.row-index l.fn.rows);
  left : (end : ℕ) → AreSetRows l.next end (drop l.row-index l.fn.rows) → AreSetRows 1 end l.fn.rows;
}
