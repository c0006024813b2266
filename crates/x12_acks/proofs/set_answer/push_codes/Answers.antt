use Rattle.std.proofs.Common.{arith}
use Rattle.std.proofs.lemmas.Grind.{common_steps}
use Rattle.x12_acks.proofs.set_answer.push_codes.Goals as goal

pub loop-code-preserved : goal.loop-code-preserved
loop-code-preserved c = grind (arith, common_steps)
