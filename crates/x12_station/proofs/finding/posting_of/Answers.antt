use Rattle.std.proofs.Common.{arith}
use Rattle.std.proofs.lemmas.Grind.{common_steps}
use Rattle.x12_station.proofs.finding.posting_of.Goals as goal

pub loop-posting-preserved : goal.loop-posting-preserved
loop-posting-preserved c = grind (arith, common_steps)

pub returns : goal.returns
returns c = grind (arith, common_steps)
