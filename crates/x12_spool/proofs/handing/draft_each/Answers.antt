use Rattle.std.proofs.Common.{arith}
use Rattle.std.proofs.lemmas.Grind.{common_steps}
use Rattle.x12_spool.specs.Deed.{Drafts}
use Rattle.x12_spool.proofs.DeedLemmas.{err_holds}
use Rattle.x12_spool.proofs.HandingLemmas.{stops_among}
use Rattle.x12_spool.proofs.handing.draft_each.Goals as goal

pub returns-in_err-draft-clause-stopped : goal.returns-in_err-draft-clause-stopped
returns-in_err-draft-clause-stopped g c =
    err_holds (stops_among Drafts c.args.postings.now c.loop-posting.posting-index _ _ _ c.loop-posting.invariant c.in_err-draft.ensures.undrafted) _

pub loop-posting-preserved : goal.loop-posting-preserved
loop-posting-preserved g c = grind (arith, common_steps)

pub returns-clause-drafted : goal.returns-clause-drafted
returns-clause-drafted g c = grind (arith, common_steps)
