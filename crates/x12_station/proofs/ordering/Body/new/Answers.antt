use Rattle.std.proofs.Common.{arith}
use Rattle.std.proofs.lemmas.Grind.{common_steps}
use Rattle.x12_station.proofs.ordering.Body.new.Goals as goal

pub loop-elements-preserved : goal.loop-elements-preserved
loop-elements-preserved c = grind (arith, common_steps)

pub returns : goal.returns
returns c = grind (arith, common_steps)
