-- the copies so far, and what is left, are all
use Rattle.std.proofs.Common.{◌≡◌, ◌++◌, drop, map}
use Rattle.x12_station.specs.Ordering.{order_view}
use Rattle.x12_nodes.proofs.actions.copied_orders.Given as goal

abbrev pub invariant-loop-order : goal.invariant-loop-order
invariant-loop-order l =
    map order_view l.copies.items ++ map order_view (drop l.order-index l.orders) ≡ map order_view l.orders
