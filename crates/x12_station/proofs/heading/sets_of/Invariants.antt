use Rattle.std.proofs.Common.{◌≡◌, map, take}
use Rattle.std.specs.List.{enumerate_from}
use Rattle.x12_envelopes.specs.Envelope.{set_written}
use Rattle.x12_profile.specs.Order.{order_set}
use Rattle.x12_station.specs.Ordering.{order_view}
use Rattle.x12_station.proofs.heading.sets_of.Given as goal

abbrev pub invariant-loop-index : goal.invariant-loop-index
invariant-loop-index l = map set_written l.sets.items ≡ map order_set (enumerate_from 1 (map order_view (take l.index l.orders)))
