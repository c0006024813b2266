use Rattle.std.proofs.Common.{◌≡◌, ◌++◌, take, map}
use Rattle.x12_envelopes.specs.Segment.{text_of}
use Rattle.x12_envelopes.specs.Envelope.{segment_view}
use Rattle.x12_envelopes.proofs.writing.push_segments.Given as goal

abbrev pub invariant-loop-segment : goal.invariant-loop-segment
invariant-loop-segment l = l.out.items ≡ l.fn.out.items ++ text_of l.delims (map segment_view (take l.segment-index l.segments))
