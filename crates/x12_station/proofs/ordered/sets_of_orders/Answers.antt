use Rattle.std.proofs.Common.{arith}
use Rattle.std.proofs.lemmas.Grind.{common_steps}
use Rattle.x12_outbound.specs.Entry.{set_row}
use Rattle.x12_station.specs.Ordering.{order_view}
use Rattle.x12_station.specs.working.Orders.{pending_order}
use Rattle.x12_station.proofs.OrderingLemmas.{one_more}
use Rattle.x12_station.proofs.ordered.sets_of_orders.Goals as goal

pub loop-body-preserved : goal.loop-body-preserved
loop-body-preserved c =
    let so_far = c.loop-body.invariant in
    record {
      place = let at = so_far.place in omega arith;
      sets = one_more set_row order_view pending_order c.loop-body.sets.items c.push.new.self.items c.args.orders.now c.loop-body._body-index c.loop-body.place c._body-item.result c.set_of_order.result
          c.loop-body-test.true c._body-item.is so_far.place c.in_ok-push.ensures.items (c.set_of_order.ensures (order_view c._body-item.result)) so_far.sets;
    }

pub returns : goal.returns
returns c = grind (arith, common_steps)
