use Rattle.std.proofs.Common.{ℕ, drop, map}
use Rattle.x12_station_records.proofs.StationSentTaken.{AreLeftOf}
use Rattle.x12_station_records.specs.StationAdopt.{AreOfAll, set_read}
use Rattle.x12_station_records.specs.StationTaken.{AreRowsOfAll}
use Rattle.x12_station_records.proofs.station_groups.test_sent.Given as goal

abbrev pub invariant-loop-submission : goal.invariant-loop-submission
invariant-loop-submission l = record {
  are : AreOfAll l.fn.book l.least (map (λ (x : ℕ × ℕ). x.0) (drop l.submission-index l.fn.sent)) (map set_read l.rest) → AreOfAll l.fn.book 0 (map (λ (x : ℕ × ℕ). x.0) l.fn.sent) (map set_read l.fn.rows);
  left : AreRowsOfAll l.fn.book (map (λ (x : ℕ × ℕ). x.0) l.fn.sent) l.fn.rows → AreLeftOf l.fn.book l.least (map (λ (x : ℕ × ℕ). x.0) (drop l.submission-index l.fn.sent)) l.rest;
}
