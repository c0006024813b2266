use Rattle.x12_links.specs.Link.{IsLink, IsSameLink}
use Rattle.x12_links.proofs.link.run_link.Given as goal

abbrev pub invariant-loop : goal.invariant-loop
invariant-loop g l =
    (goal.iterator-loop g).can_next l.iterator' × (goal.iterator-loop g).is_finite l.iterator'
    × IsLink (g.W.Wire.follows l.wire) l.link × IsSameLink l.fn.link l.link
