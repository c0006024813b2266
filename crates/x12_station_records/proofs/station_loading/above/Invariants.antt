-- with those that are left
use Rattle.std.proofs.Common.{◌≡◌, map, drop}
use Rattle.std.specs.Prelude.{max}
use Rattle.x12_outbound.specs.Entry.{group_row}
use Rattle.x12_station.specs.Closed.{above_groups}
use Rattle.x12_station_records.proofs.station_loading.above.Given as goal

abbrev pub invariant-loop-group : goal.invariant-loop-group
invariant-loop-group l = max l.above (above_groups (map group_row (drop l.group-index l.groups))) ≡ max l.fn.least (above_groups (map group_row l.groups))
