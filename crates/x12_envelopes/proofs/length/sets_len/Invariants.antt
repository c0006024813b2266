use Rattle.std.proofs.Common.{◌≡◌, ◌-◌, ◌^◌, min, length, take, map, flat_map}
use Rattle.x12_envelopes.specs.Segment.{text_of}
use Rattle.x12_envelopes.specs.Envelope.{set_written, set_segments}
use Rattle.x12_envelopes.proofs.length.sets_len.Given as goal

abbrev pub invariant-loop-set : goal.invariant-loop-set
invariant-loop-set l = l.len ≡ min (length (text_of l.delims (flat_map set_segments (map set_written (take l.set-index l.sets))))) (2 ^ 64 - 1)
