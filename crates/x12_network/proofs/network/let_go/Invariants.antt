use Rattle.std.specs.Vec.Iter.{into_iter_len}
use Rattle.x12_network.proofs.network.let_go.Given as goal

abbrev pub decreases-loop-endpoint : goal.decreases-loop-endpoint
decreases-loop-endpoint g l = into_iter_len l.left
