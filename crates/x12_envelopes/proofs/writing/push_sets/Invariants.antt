use Rattle.std.proofs.Common.{◌≡◌, ◌++◌, take, map, flat_map}
use Rattle.x12_envelopes.specs.Segment.{text_of}
use Rattle.x12_envelopes.specs.Envelope.{set_written, set_segments}
use Rattle.x12_envelopes.proofs.writing.push_sets.Given as goal

abbrev pub invariant-loop-set : goal.invariant-loop-set
invariant-loop-set l = l.out.items ≡ l.fn.out.items ++ text_of l.delims (flat_map set_segments (map set_written (take l.set-index l.sets)))
