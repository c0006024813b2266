use Rattle.std.proofs.Common.{ℕ, drop, ◌≡◌, ◌+◌}
use Rattle.x12_station_records.specs.StationAdopt.{ArePostings}
use Rattle.x12_station_records.proofs.station_postings.next_posting.Given as goal

abbrev pub invariant-loop-row : goal.invariant-loop-row
invariant-loop-row l = record {
  place : l.next ≡ l.row-index + 1;
  right : (end : ℕ) → ArePostings 1 end l.fn.rows → ArePostings l.next end (drop l.row-index l.fn.rows);
  left : (end : ℕ) → ArePostings l.next end (drop l.row-index l.fn.rows) → ArePostings 1 end l.fn.rows;
}
