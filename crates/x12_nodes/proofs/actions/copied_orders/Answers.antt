use Rattle.std.proofs.Common.{arith}
use Rattle.std.proofs.lemmas.Grind.{common_steps}
use Rattle.x12_nodes.proofs.actions.copied_orders.Goals as goal

pub loop-order-preserved : goal.loop-order-preserved
loop-order-preserved c = grind (arith, common_steps)

pub returns : goal.returns
returns c = grind (arith, common_steps)
