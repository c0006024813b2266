use Rattle.std.proofs.Common.{arith}
use Rattle.std.proofs.lemmas.Grind.{common_steps}
use Rattle.x12_spool.specs.Deed.{Names}
use Rattle.x12_spool.proofs.DeedLemmas.{err_holds}
use Rattle.x12_spool.proofs.HandingLemmas.{stops_among}
use Rattle.x12_spool.proofs.handing.name_each.Goals as goal

pub returns-in_err-name-clause-stopped : goal.returns-in_err-name-clause-stopped
returns-in_err-name-clause-stopped g c =
    err_holds (stops_among Names c.args.postings.now c.loop-posting.posting-index _ _ _ c.loop-posting.invariant c.in_err-name.ensures.unnamed) _

pub loop-posting-preserved : goal.loop-posting-preserved
loop-posting-preserved g c = grind (arith, common_steps)

pub returns-clause-named : goal.returns-clause-named
returns-clause-named g c = grind (arith, common_steps)
