use Rattle.std.proofs.Common.{◌≡◌, ◌++◌, take, map, flat_map}
use Rattle.x12_envelopes.specs.Segment.{text_of}
use Rattle.x12_envelopes.specs.Envelope.{group_written, group_segments}
use Rattle.x12_envelopes.proofs.writing.push_groups.Given as goal

abbrev pub invariant-loop-group : goal.invariant-loop-group
invariant-loop-group l = l.out.items ≡ l.fn.out.items ++ text_of l.delims (flat_map group_segments (map group_written (take l.group-index l.groups)))
