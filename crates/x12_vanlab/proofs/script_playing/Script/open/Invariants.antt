use Rattle.std.proofs.Common.{length}
use Rattle.x12_vanlab.proofs.script_playing.Script.open.Given as goal

abbrev pub decreases-loop-bytes : goal.decreases-loop-bytes
decreases-loop-bytes l = length l.ahead.rest.now
