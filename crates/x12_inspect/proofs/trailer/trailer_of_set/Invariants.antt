use Rattle.std.proofs.Common.{length}
use Rattle.x12_segments.specs.Walk.{bytes_to_show}
use Rattle.x12_inspect.proofs.trailer.trailer_of_set.Given as goal

abbrev pub decreases-loop-placed : goal.decreases-loop-placed
decreases-loop-placed l = length (bytes_to_show l.walk)
