use Rattle.std.proofs.Common.{◌≡◌, ◌-◌, ◌^◌, min, length, take, map}
use Rattle.std.specs.List.{sum_by}
use Rattle.x12_outbound.specs.Entry.{GroupRow, group_row}
use Rattle.x12_station_records.proofs.station_groups.set_count.Given as goal

abbrev pub invariant-loop-group : goal.invariant-loop-group
invariant-loop-group l = l.count ≡ min (sum_by (λ (g : GroupRow). length g.sets) (map group_row (take l.group-index l.groups))) (2 ^ 64 - 1)
