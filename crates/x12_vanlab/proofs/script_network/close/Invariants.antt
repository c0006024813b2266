use Rattle.std.proofs.Common.{vec_len}
use Rattle.x12_vanlab.proofs.script_network.close.Given as goal

abbrev pub decreases-loop-station : goal.decreases-loop-station
decreases-loop-station l = vec_len l.stations
