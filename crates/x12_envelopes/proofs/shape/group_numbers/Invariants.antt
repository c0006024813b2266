use Rattle.std.proofs.Common.{◌≡◌, map, take}
use Rattle.x12_envelopes.proofs.shape.group_numbers.Given as goal

abbrev pub invariant-loop-group : goal.invariant-loop-group
invariant-loop-group l = l.numbers.items ≡ map (λ g. g.number) (take l.group-index l.groups)
