use Rattle.std.proofs.Common.{◌≡◌, ◌-◌, ◌^◌, min, length, take, map, flat_map}
use Rattle.x12_envelopes.specs.Segment.{text_of}
use Rattle.x12_envelopes.specs.Envelope.{group_written, group_segments}
use Rattle.x12_envelopes.proofs.length.groups_len.Given as goal

abbrev pub invariant-loop-group : goal.invariant-loop-group
invariant-loop-group l = l.len ≡ min (length (text_of l.delims (flat_map group_segments (map group_written (take l.group-index l.groups))))) (2 ^ 64 - 1)
