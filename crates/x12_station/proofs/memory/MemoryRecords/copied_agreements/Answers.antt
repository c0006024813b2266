use Rattle.std.proofs.Common.{arith}
use Rattle.std.proofs.lemmas.Grind.{common_steps}
use Rattle.x12_station.proofs.memory.MemoryRecords.copied_agreements.Goals as goal

pub loop-agreement-preserved : goal.loop-agreement-preserved
loop-agreement-preserved c = grind (arith, common_steps)

pub returns : goal.returns
returns c = grind (arith, common_steps)
