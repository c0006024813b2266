use Rattle.std.proofs.Common.{arith}
use Rattle.std.proofs.lemmas.Grind.{common_steps}
use Rattle.x12_acks.specs.Answer.{answers_of}
use Rattle.x12_acks.proofs.answer.read_answers.Goals as goal

pub loop-ta1-preserved : goal.loop-ta1-preserved
unfolding answers_of
loop-ta1-preserved c = grind (arith, common_steps)

pub loop-group-preserved : goal.loop-group-preserved
unfolding answers_of
loop-group-preserved c = grind (arith, common_steps)
