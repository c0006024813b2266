use Rattle.std.proofs.Common.{rules}
use Rattle.x12_network.proofs.CallerLemmas.{new_more, placed_more}
use Rattle.x12_network.proofs.network.put_endpoints.Goals as goal

-- one endpoint more
pub loop-place-preserved : goal.loop-place-preserved
loop-place-preserved g c = record {
  count = search rules;
  room = search rules;
  new = new_more (λ e. e.recipient.pass) c.loop-place.endpoints.items _ c.in_ok-next.next c.loop-place.invariant.new c.in_ok-next.ensures.new c.push_reserved.ensures.items;
  placed = placed_more (λ e. (e.node, e.senders.items)) _ c.loop-place.endpoints.items _ c.in_ok-next.next c.loop-place.place c.loop-place.invariant.placed c.loop-place.invariant.count c.push_reserved.ensures.items c.in_ok-next.ensures.placed;
}
