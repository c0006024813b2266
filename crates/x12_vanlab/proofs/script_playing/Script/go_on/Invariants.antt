use Rattle.std.proofs.Common.{length}
use Rattle.x12_vanlab.specs.Script.{Grows}
use Rattle.x12_vanlab.proofs.script_playing.Script.go_on.Given as goal

abbrev pub invariant-loop-bytes : goal.invariant-loop-bytes
invariant-loop-bytes g l = Grows (g.W.Write.contents l.fn.out) (g.W.Write.contents l.out)

abbrev pub decreases-loop-bytes : goal.decreases-loop-bytes
decreases-loop-bytes g l = length l.ahead.rest.now
