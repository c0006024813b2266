use Rattle.std.proofs.Common.{arith}
use Rattle.std.proofs.lemmas.Grind.{common_steps}
use Rattle.x12_judge.specs.Group.{verdict_of_group}
use Rattle.x12_judge.proofs.group.group_verdict.Goals as goal

pub returns : goal.returns
unfolding verdict_of_group
returns c = grind (arith, common_steps)
