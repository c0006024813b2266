use Rattle.std.proofs.Common.{arith}
use Rattle.std.proofs.lemmas.Grind.{common_steps}
use Rattle.x12_inspect.proofs.told.read_told.Goals as goal

pub loop-answer-preserved : goal.loop-answer-preserved
loop-answer-preserved c = grind (arith, common_steps)

pub returns-clause-answers : goal.returns-clause-answers
returns-clause-answers c = grind (arith, common_steps)

pub returns-clause-left : goal.returns-clause-left
returns-clause-left c = grind (arith, common_steps)
