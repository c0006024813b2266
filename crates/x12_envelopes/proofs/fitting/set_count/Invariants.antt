use Rattle.std.proofs.Common.{◌≡◌, ◌-◌, ◌^◌, min, length, take, map}
use Rattle.std.specs.List.{sum_by}
use Rattle.x12_envelopes.specs.Envelope.{WrittenGroup, group_written}
use Rattle.x12_envelopes.proofs.fitting.set_count.Given as goal

abbrev pub invariant-loop-group : goal.invariant-loop-group
invariant-loop-group l = l.count ≡ min (sum_by (λ (g : WrittenGroup). length g.sets) (map group_written (take l.group-index l.groups))) (2 ^ 64 - 1)
