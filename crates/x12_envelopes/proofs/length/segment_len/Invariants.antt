use Rattle.std.proofs.Common.{◌≡◌, ◌+◌, ◌-◌, ◌^◌, min, length, take}
use Rattle.std.specs.List.{sum_by}
use Rattle.x12_envelopes.proofs.length.segment_len.Given as goal

abbrev pub invariant-loop-element : goal.invariant-loop-element
invariant-loop-element g l = l.len ≡ min (sum_by (λ e. length (g.E.AsSlice.items e) + 1) (take l.element-index l.elements)) (2 ^ 64 - 1)
