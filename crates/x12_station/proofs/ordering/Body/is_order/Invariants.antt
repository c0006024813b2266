use Rattle.std.proofs.Common.{◌≡◌, drop, map}
use Rattle.x12_envelopes.specs.Envelope.{segment_view}
use Rattle.x12_profile.specs.Order.{is_order}
use Rattle.x12_station.proofs.ordering.Body.is_order.Given as goal

abbrev pub invariant-loop-segment : goal.invariant-loop-segment
invariant-loop-segment l =
    is_order (map segment_view (drop l.segment-index l.self.segments.items)) ≡ is_order (map segment_view l.self.segments.items)
