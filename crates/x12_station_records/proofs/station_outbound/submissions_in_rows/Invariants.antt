use Rattle.std.proofs.Common.{ℕ, List, drop, ◌++◌}
use Rattle.x12_station_records.specs.StationAdopt.{AreSubmissions, IsSubmission}
use Rattle.x12_station_records.specs.StationTaken.{AreChained}
use Rattle.x12_station_records.proofs.station_outbound.submissions_in_rows.Given as goal

abbrev pub invariant-loop-row : goal.invariant-loop-row
invariant-loop-row l =
    ((rest : List (ℕ × ℕ)) → AreSubmissions l.fn.book l.last rest (drop l.row-index l.fn.rows) → AreSubmissions l.fn.book (0, 0) (l.sent.items ++ rest) l.fn.rows)
    × (AreChained (IsSubmission l.fn.book) (0, 0) l.fn.rows → AreChained (IsSubmission l.fn.book) l.last (drop l.row-index l.fn.rows))
