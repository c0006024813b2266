use Rattle.std.proofs.Common.{length}
use Rattle.x12_inspect.proofs.fault.begun.Given as goal

abbrev pub decreases-loop-behind : goal.decreases-loop-behind
decreases-loop-behind l = length l.rest
