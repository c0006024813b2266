-- what was gathered, and what is left, are the numbers of all rows
use Rattle.std.proofs.Common.{◌≡◌, ◌++◌, map, drop}
use Rattle.x12_station_records.specs.StationOpen.{number_shown}
use Rattle.x12_station_records.proofs.station_outset.numbers_in_rows.Given as goal

abbrev pub invariant-loop-row : goal.invariant-loop-row
invariant-loop-row l = l.numbers.items ++ map number_shown (drop l.row-index l.rows) ≡ map number_shown l.rows
