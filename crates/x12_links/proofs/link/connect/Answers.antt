use Rattle.std.proofs.Common.{rules, []}
use Rattle.x12_links.proofs.RouteLemmas.{took_none}
use Rattle.x12_links.proofs.link.connect.Goals as goal

pub returns-clause-link : goal.returns-clause-link
returns-clause-link g c =
    let opened = c.in_ok-sender.ensures.puts in
    (opened.0, ([], opened.1, took_none (g.W.Wire.follows c.args.wire.now c.args.way) c.args.plan _ _ (search rules) (search rules)))
