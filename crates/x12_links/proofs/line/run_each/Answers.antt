use Rattle.std.proofs.Common.{get_or, subst}
use Rattle.x12_links.specs.Net.{IsDoneLink}
use Rattle.x12_links.proofs.line.run_each.Goals as goal

-- what its call left of each link
pub returns-clause-each : goal.returns-clause-each
returns-clause-each g c = λ k d within.
    let did = (c.for_each_mut.ensures k d within).1 in
    subst (λ x. IsDoneLink (g.W.Wire.follows c.args.wire.now) x (get_or c.for_each_mut.new.s k d)) did.argument_is
    (subst (λ y. IsDoneLink (g.W.Wire.follows c.args.wire.now) did.argument.now y) did.left did.call)
