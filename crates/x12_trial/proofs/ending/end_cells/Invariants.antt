use Rattle.std.proofs.Common.{length}
use Rattle.x12_trial.proofs.ending.end_cells.Given as goal

abbrev pub decreases-loop-cell : goal.decreases-loop-cell
decreases-loop-cell g l = length l.cells.items
