use Rattle.std.proofs.Common.{◌≡◌, drop, map}
use Rattle.std.specs.List.{list_all}
use Rattle.x12_envelopes.specs.Fitting.{element_is_writable}
use Rattle.x12_envelopes.proofs.element.are_elements.Given as goal

abbrev pub invariant-loop-element : goal.invariant-loop-element
invariant-loop-element g l =
    list_all (element_is_writable l.delims) (map g.E.AsSlice.items (drop l.element-index l.elements)) ≡ list_all (element_is_writable l.delims) (map g.E.AsSlice.items l.elements)
