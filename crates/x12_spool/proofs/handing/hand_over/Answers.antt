use Rattle.std.proofs.Common.{rules, arith}
use Rattle.std.proofs.lemmas.Grind.{common_steps}
use Rattle.x12_profile.proofs.Shelf.{on_err_so}
use Rattle.x12_spool.proofs.HandingLemmas.{stops_new}
use Rattle.x12_spool.proofs.handing.hand_over.Goals as goal

pub returns-clause-stopped : goal.returns-clause-stopped
returns-clause-stopped g c =
    on_err_so c.hand_new.result (stops_new c.args.marked.now c.args.new.now c.args.count (search rules) _ _ _ c.in_ok-settle.ensures.settled) c.hand_new.ensures.stopped

pub returns-clause-handed : goal.returns-clause-handed
returns-clause-handed g c = grind (arith, common_steps)
