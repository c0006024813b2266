use Rattle.std.proofs.Common.{rules, ◌≡◌, []}
use Rattle.x12_links.proofs.RouteLemmas.{took_more}
use Rattle.x12_links.proofs.link.step.Goals as goal

-- a parcel more was taken
pub returns-in_ok-take_next-in-Some-2-clause-link : goal.returns-in_ok-take_next-in-Some-2-clause-link
returns-in_ok-take_next-in-Some-2-clause-link g c =
    let was = c.requires.1 in
    let link = c.args.link.now in
    let none : link.route.pending.items ≡ [] = search rules in
    let did = c.in_ok-take_next-in-Some-2.ensures in (
      c.requires.0,
      (was.0, was.1, took_more (g.W.Wire.follows c.args.wire.now link.way) link.plan link.last _ _ was.0 link.route.pending.items _ c.in-Some-2.parcel was.2 none (search rules) did.standing did.pending),
    )
