use Rattle.std.proofs.Common.{get_or, subst}
use Rattle.x12_links.specs.Net.{IsNodeHeard}
use Rattle.x12_links.proofs.net.run_slice.Goals as goal

-- what its call left of each node
pub returns-clause-heard : goal.returns-clause-heard
returns-clause-heard g c = λ i e within.
    let did = (c.for_each_mut.ensures i e within).1 in
    subst (λ x. IsNodeHeard (g.W.Wire.follows c.args.wire.now) g.D.Recipient.answered c.args.plan x.node x.senders.items (g.D.Recipient.delivered (get_or c.for_each_mut.new.s i e).recipient)) did.argument_is
    (subst (λ y. IsNodeHeard (g.W.Wire.follows c.args.wire.now) g.D.Recipient.answered c.args.plan did.argument.now.node did.argument.now.senders.items (g.D.Recipient.delivered y.recipient)) did.left
    (subst (λ p. IsNodeHeard (g.W.Wire.follows c.args.wire.now) g.D.Recipient.answered p did.argument.now.node did.argument.now.senders.items (g.D.Recipient.delivered did.after_call.now.recipient)) c.new-course.ensures.1 did.call))
