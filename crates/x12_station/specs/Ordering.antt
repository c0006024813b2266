-- What the code's orders stand for.
use Rattle.std.specs.Prelude.{map}
use Rattle.x12_envelopes.specs.Envelope.{segment_view}
use Rattle.x12_profile.specs.Interchange.{Order}
use Rattle.x12_station.specs.declared.ordering.Body.{Body}

-- an order: the segments between ST and SE
abbrev pub order_view : Body → Order
order_view b = map segment_view b.segments.items
