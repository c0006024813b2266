use Rattle.x12_network.specs.Deliveries.{IsAnswer}
use Rattle.x12_network.proofs.CallerLemmas.{linked_of, none_delivered}
use Rattle.x12_network.proofs.network.run_endpoints.Goals as goal

-- nothing was delivered to new callers
pub run_net-requires-clause-new : goal.run_net-requires-clause-new
run_net-requires-clause-new g c κs w = λ i d within from. none_delivered (λ e. e.recipient.pass) c.args.endpoints.now.items i d from c.requires.new within

-- and what was delivered stands in their passes
pub returns-clause-linked : goal.returns-clause-linked
returns-clause-linked g c = linked_of (λ e. e.recipient.pass) (IsAnswer g.G.Gate.lets) c.args.plan.now.faults (λ e. (e.node, e.senders.items)) c.args.endpoints.now.items c.run_net.new.endpoints.items c.run_net.ensures.heard c.run_net.ensures.all
