use Rattle.std.proofs.Common.{arith}
use Rattle.std.proofs.lemmas.Grind.{common_steps}
use Rattle.x12_world.proofs.packets.told.Goals as goal

pub loop-packet-preserved : goal.loop-packet-preserved
loop-packet-preserved c = grind (arith, common_steps)

pub returns : goal.returns
returns c = grind (arith, common_steps)
