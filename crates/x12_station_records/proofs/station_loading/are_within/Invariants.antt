-- the groups that are left decide
use Rattle.std.proofs.Common.{◌≡◌, map, drop}
use Rattle.x12_outbound.specs.Entry.{group_row}
use Rattle.x12_station_records.specs.StationOpen.{are_between}
use Rattle.x12_station_records.proofs.station_loading.are_within.Given as goal

abbrev pub invariant-loop-group : goal.invariant-loop-group
invariant-loop-group l = are_between l.fn.least l.fn.most (map group_row (drop l.group-index l.groups)) ≡ are_between l.fn.least l.fn.most (map group_row l.groups)
