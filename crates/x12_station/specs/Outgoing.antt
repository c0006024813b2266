-- What the code's outgoing interchanges stand for.
use Rattle.std.specs.Arc.{arc_slice_items}
use Rattle.x12_profile.specs.Interchange.{Bytes}
use Rattle.x12_station.specs.declared.outgoing.Outgoing.{Outgoing}
use Rattle.x12_station.specs.declared.outgoing.Outgoing.TheVariants.{Own, Shared}

abbrev pub outgoing_bytes : Outgoing → Bytes
outgoing_bytes (Own b) = b.items
outgoing_bytes (Shared b) = arc_slice_items b
