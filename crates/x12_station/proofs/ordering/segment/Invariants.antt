use Rattle.std.proofs.Common.{◌≡◌, map, take}
use Rattle.x12_envelopes.specs.Envelope.{elements_view}
use Rattle.x12_station.proofs.ordering.segment.Given as goal

abbrev pub invariant-loop-element : goal.invariant-loop-element
invariant-loop-element l = elements_view l.segment.items ≡ map (λ e. e.now) (take l.element-index l.elements)
