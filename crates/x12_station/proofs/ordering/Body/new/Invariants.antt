use Rattle.std.proofs.Common.{◌≡◌, map, take}
use Rattle.x12_envelopes.specs.Envelope.{segment_view}
use Rattle.x12_station.proofs.ordering.Body.new.Given as goal

-- the segments before this one stand in the order
abbrev pub invariant-loop-elements : goal.invariant-loop-elements
invariant-loop-elements l = map segment_view l.body.items ≡ map (λ s. map (λ e. e.now) s.now) (take l.elements-index l.segments)
