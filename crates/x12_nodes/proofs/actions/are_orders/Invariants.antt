-- what is left decides
use Rattle.std.proofs.Common.{◌≡◌, length, map}
use Rattle.std.specs.Cmp.Lexicographic.{pointwise}
use Rattle.x12_nodes.specs.Comparing.{order_is}
use Rattle.x12_station.specs.Ordering.{order_view}
use Rattle.x12_nodes.proofs.actions.are_orders.Given as goal

abbrev pub invariant-loop-one : goal.invariant-loop-one
invariant-loop-one l =
    pointwise order_is (map order_view l.left) (map order_view l.right)
    ≡ pointwise order_is (map order_view l.orders) (map order_view l.others)

abbrev pub decreases-loop-one : goal.decreases-loop-one
decreases-loop-one l = length l.left
