use Rattle.std.proofs.Common.{◌≡◌, drop, map}
use Rattle.std.specs.List.{list_all}
use Rattle.x12_profile.specs.Order.{is_order}
use Rattle.x12_station.specs.Ordering.{order_view}
use Rattle.x12_station.proofs.orders.can_be_written.Given as goal

abbrev pub invariant-loop-order : goal.invariant-loop-order
invariant-loop-order l =
    list_all is_order (map order_view (drop l.order-index l.orders)) ≡ list_all is_order (map order_view l.orders)
