use Rattle.std.proofs.Common.{arith}
use Rattle.std.proofs.lemmas.Grind.{common_steps}
use Rattle.x12_nodes.proofs.MergingLemmas.{all_first, first_less, one_step, second_less}
use Rattle.x12_nodes.proofs.merging.merge.Goals as goal

pub loop-x-preserved : goal.loop-x-preserved
loop-x-preserved c = grind (arith, common_steps, first_less, second_less, one_step, all_first)

pub returns : goal.returns
returns c = grind (arith, common_steps, first_less, second_less, one_step, all_first)
