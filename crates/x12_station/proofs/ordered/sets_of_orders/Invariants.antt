use Rattle.std.proofs.Common.{◌≡◌, ◌+◌, map, take}
use Rattle.std.specs.List.{enumerate_from}
use Rattle.x12_outbound.specs.Entry.{set_row}
use Rattle.x12_station.specs.Ordering.{order_view}
use Rattle.x12_station.specs.working.Orders.{pending_order}
use Rattle.x12_station.proofs.ordered.sets_of_orders.Given as goal

abbrev pub invariant-loop-body : goal.invariant-loop-body
invariant-loop-body l = record {
  place : l.place ≡ l._body-index + 1;
  sets : map set_row l.sets.items ≡ map pending_order (enumerate_from 1 (map order_view (take l._body-index l.orders)));
}
