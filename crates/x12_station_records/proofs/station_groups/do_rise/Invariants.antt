-- the answer is that of the groups that are left
use Rattle.std.proofs.Common.{◌≡◌, map, drop}
use Rattle.x12_outbound.specs.Entry.{group_row}
use Rattle.x12_station_records.specs.StationGroups.{are_rising}
use Rattle.x12_station_records.proofs.station_groups.do_rise.Given as goal

abbrev pub invariant-loop-group : goal.invariant-loop-group
invariant-loop-group l = are_rising l.least (map group_row (drop l.group-index l.groups)) ≡ are_rising l.from (map group_row l.groups)
