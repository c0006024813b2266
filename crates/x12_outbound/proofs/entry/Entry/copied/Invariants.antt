use Rattle.std.proofs.Common.{◌≡◌, take, map}
use Rattle.x12_outbound.specs.Entry.{group_row}
use Rattle.x12_outbound.proofs.entry.Entry.copied.Given as goal

-- the groups so far are copied
abbrev pub invariant-loop-group : goal.invariant-loop-group
invariant-loop-group l = map group_row l.groups.items ≡ map group_row (take l.group-index l.self.groups.items)
