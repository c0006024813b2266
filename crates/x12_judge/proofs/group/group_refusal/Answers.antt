use Rattle.std.proofs.Common.{arith}
use Rattle.std.proofs.lemmas.Grind.{common_steps}
use Rattle.x12_judge.specs.Group.{refusal_of_group}
use Rattle.x12_judge.proofs.group.group_refusal.Goals as goal

pub returns : goal.returns
unfolding refusal_of_group
returns c = grind (arith, common_steps)
