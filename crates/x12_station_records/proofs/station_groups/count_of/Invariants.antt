use Rattle.std.proofs.Common.{take, drop, ◌≡◌}
use Rattle.std.specs.List.{AllByRecursion}
use Rattle.sqlite.specs.Order.{column}
use Rattle.sql_rows.specs.Keyed.{number_in}
use Rattle.x12_station_records.specs.StationTaken.{HasSetRow}
use Rattle.x12_station_records.proofs.station_groups.count_of.Given as goal

abbrev pub invariant-loop-row : goal.invariant-loop-row
invariant-loop-row l = record {
  count : l.count ≡ l.row-index;
  own : AllByRecursion (λ r. number_in (column r 6) ≡ l.fn.icn) (take l.row-index l.fn.rows);
  wide : AllByRecursion HasSetRow l.fn.rows → AllByRecursion HasSetRow (drop l.row-index l.fn.rows);
}
