use Rattle.std.proofs.Common.{length}
use Rattle.x12_trial.proofs.ending.discard.Given as goal

abbrev pub decreases-loop-pass : goal.decreases-loop-pass
decreases-loop-pass l = length l.passes.items
