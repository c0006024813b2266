-- those so far are
use Rattle.std.proofs.Common.{take, All}
use Rattle.x12_nodes.specs.Cell.{IsReplayed}
use Rattle.x12_nodes.proofs.checking.are_replayed.Given as goal

abbrev pub invariant-loop-cell : goal.invariant-loop-cell
invariant-loop-cell g l = All IsReplayed (take l.cell-index l.cells)
