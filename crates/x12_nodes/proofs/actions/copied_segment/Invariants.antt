-- the copies so far, and what is left, are all
use Rattle.std.proofs.Common.{◌≡◌, ◌++◌, drop}
use Rattle.x12_envelopes.specs.Envelope.{elements_view}
use Rattle.x12_nodes.proofs.actions.copied_segment.Given as goal

abbrev pub invariant-loop-element : goal.invariant-loop-element
invariant-loop-element l =
    elements_view l.copies.items ++ elements_view (drop l.element-index l.elements) ≡ elements_view l.elements
