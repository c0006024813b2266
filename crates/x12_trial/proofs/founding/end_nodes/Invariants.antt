use Rattle.std.proofs.Common.{length}
use Rattle.x12_trial.proofs.founding.end_nodes.Given as goal

abbrev pub decreases-loop-node : goal.decreases-loop-node
decreases-loop-node g l = length l.nodes.items
