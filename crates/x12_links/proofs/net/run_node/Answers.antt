use Rattle.std.proofs.Common.{subst}
use Rattle.x12_links.specs.Net.{AreSameNumbers}
use Rattle.x12_links.specs.Worker.{senders_of}
use Rattle.x12_links.proofs.NetLemmas.{links_begin, none_heard, worker_begins, still_paired, node_heard}
use Rattle.x12_links.proofs.net.run_node.Goals as goal

-- memory was missing: nothing was delivered
pub returns-in_default : goal.returns-in_default
returns-in_default g c = none_heard (g.W.Wire.follows c.args.wire.now) g.D.Recipient.answered (g.D.Recipient.delivered c.args.endpoint.now.recipient) _ _ _ c.requires

pub run_all-requires-clause-links : goal.run_all-requires-clause-links
run_all-requires-clause-links g c κs within =
    links_begin (g.W.Wire.follows c.args.wire.now) c.args.course.now.plan c.args.endpoint.now.node c.in-Ok.links.items c.in-Ok.inlets.items c.in-Ok.ensures.connected

pub run_all-requires-clause-inlets : goal.run_all-requires-clause-inlets
run_all-requires-clause-inlets g c κs within =
    worker_begins (g.W.Wire.follows c.args.wire.now) g.D.Recipient.answered (g.D.Recipient.delivered c.args.endpoint.now.recipient) c.args.course.now.plan c.args.endpoint.now.node c.in-Ok.links.items c.in-Ok.inlets.items c.in-Ok.ensures.connected c.requires

pub close_all-requires : goal.close_all-requires
close_all-requires g c =
    still_paired (g.W.Wire.follows c.args.wire.now) g.D.Recipient.answered (g.D.Recipient.delivered c.run_all.new.recipient) c.args.course.now.plan c.args.endpoint.now.node c.in-Ok.links.items c.run_all.new.links.items c.in-Ok.inlets.items c.run_all.new.inlets.items c.in-Ok.ensures.connected
    c.run_all.ensures.links c.run_all.ensures.inlets

pub returns : goal.returns
returns g c =
    node_heard (g.W.Wire.follows c.args.wire.now) g.D.Recipient.answered (g.D.Recipient.delivered c.run_all.new.recipient) c.args.course.now.plan c.args.endpoint.now.node c.args.endpoint.now.senders.items c.in-Ok.links.items c.run_all.new.links.items c.in-Ok.inlets.items c.run_all.new.inlets.items c.in-Ok.ensures.connected
    (subst (λ xs. AreSameNumbers xs (senders_of c.in-Ok.inlets.items)) c.deref.ensures.value c.in-Ok.ensures.same) c.run_all.ensures.links c.run_all.ensures.inlets c.close_all.ensures
