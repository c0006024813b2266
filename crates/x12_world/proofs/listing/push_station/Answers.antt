use Rattle.std.proofs.Common.{arith}
use Rattle.std.proofs.lemmas.Grind.{common_steps}
use Rattle.x12_world.proofs.listing.push_station.Goals as goal

pub loop-submission-preserved : goal.loop-submission-preserved
loop-submission-preserved g c = grind (arith, common_steps)

pub returns-clause-sets : goal.returns-clause-sets
returns-clause-sets g c = grind (arith, common_steps)
