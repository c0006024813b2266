use Rattle.std.specs.Vec.Iter.{into_iter_len}
use Rattle.x12_trial.proofs.ending.end_stations.Given as goal

abbrev pub decreases-loop-station : goal.decreases-loop-station
decreases-loop-station g l = into_iter_len l.left
