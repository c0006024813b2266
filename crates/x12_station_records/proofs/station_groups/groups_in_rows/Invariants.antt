-- what was put together, and what is left, are all rows
use Rattle.std.proofs.Common.{◌≡◌, ◌++◌, ℕ, map, drop}
use Rattle.x12_outbound.specs.Entry.{group_row}
use Rattle.x12_station_records.proofs.StationGroupsTaken.{AreLeft}
use Rattle.x12_station_records.specs.StationGroups.{rows_of_groups, set_shown, AreWhole}
use Rattle.x12_station_records.specs.StationTaken.{AreGroupRows}
use Rattle.x12_station_records.proofs.station_groups.groups_in_rows.Given as goal

abbrev pub invariant-loop-row : goal.invariant-loop-row
invariant-loop-row l =
    ((icn : ℕ) → rows_of_groups icn (map group_row l.groups.items) ++ map (set_shown icn) (drop l.row-index l.rows) ≡ map (set_shown icn) l.rows)
    × AreWhole (map group_row l.groups.items)
    × (AreGroupRows l.rows → AreLeft (map group_row l.groups.items) (drop l.row-index l.rows))
