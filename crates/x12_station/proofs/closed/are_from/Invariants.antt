use Rattle.std.proofs.Common.{◌≡◌, map, drop}
use Rattle.std.specs.Prelude.{nat_le}
use Rattle.std.specs.List.{list_all}
use Rattle.x12_outbound.specs.Entry.{group_row}
use Rattle.x12_station.proofs.closed.are_from.Given as goal

-- those that are left decide
abbrev pub invariant-loop-group : goal.invariant-loop-group
invariant-loop-group l = list_all (λ g. nat_le l.fn.least g.number) (map group_row (drop l.group-index l.groups)) ≡ list_all (λ g. nat_le l.fn.least g.number) (map group_row l.groups)
