use Rattle.std.proofs.Common.{arith}
use Rattle.std.proofs.lemmas.Grind.{common_steps}
use Rattle.x12_trial.proofs.founding.found_nodes.Goals as goal

pub loop-site-preserved : goal.loop-site-preserved
loop-site-preserved g c = grind (arith, common_steps)

pub returns : goal.returns
returns g c = grind (arith, common_steps)
