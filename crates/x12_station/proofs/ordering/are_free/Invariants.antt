use Rattle.std.proofs.Common.{◌≡◌, drop}
use Rattle.std.specs.List.{list_all}
use Rattle.x12_envelopes.specs.Envelope.{elements_view}
use Rattle.x12_envelopes.specs.Fitting.{field_is_writable}
use Rattle.x12_profile.specs.Order.{order_delimiters}
use Rattle.x12_station.proofs.ordering.are_free.Given as goal

abbrev pub invariant-loop-element : goal.invariant-loop-element
invariant-loop-element l =
    list_all (field_is_writable order_delimiters) (elements_view (drop l.element-index l.elements))
    ≡ list_all (field_is_writable order_delimiters) (elements_view l.elements)
