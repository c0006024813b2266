use Rattle.std.proofs.Common.{arith}
use Rattle.std.proofs.lemmas.Grind.{common_steps}
use Rattle.x12_answering.specs.Answering.{line_of}
use Rattle.x12_answering.proofs.answering.push_line.Goals as goal

pub returns : goal.returns
unfolding line_of
returns c = grind (arith, common_steps)
