use Rattle.std.proofs.Common.{◌≡◌, ◌-◌, ◌^◌, min, length, take, map}
use Rattle.x12_envelopes.specs.Segment.{text_of}
use Rattle.x12_envelopes.specs.Envelope.{segment_view}
use Rattle.x12_envelopes.proofs.length.segments_len.Given as goal

abbrev pub invariant-loop-segment : goal.invariant-loop-segment
invariant-loop-segment l = l.len ≡ min (length (text_of l.delims (map segment_view (take l.segment-index l.segments)))) (2 ^ 64 - 1)
