-- the copies so far, and what is left, are all
use Rattle.std.proofs.Common.{◌≡◌, ◌++◌, drop, map}
use Rattle.x12_envelopes.specs.Envelope.{segment_view}
use Rattle.x12_nodes.proofs.actions.copied_segments.Given as goal

abbrev pub invariant-loop-segment : goal.invariant-loop-segment
invariant-loop-segment l =
    map segment_view l.copies.items ++ map segment_view (drop l.segment-index l.segments) ≡ map segment_view l.segments
