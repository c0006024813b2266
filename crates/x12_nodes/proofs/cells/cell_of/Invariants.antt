-- what is left decides
use Rattle.std.proofs.Common.{◌≡◌, drop}
use Rattle.x12_nodes.specs.Cells.{cell_at}
use Rattle.x12_nodes.proofs.cells.cell_of.Given as goal

abbrev pub invariant-loop-cell : goal.invariant-loop-cell
invariant-loop-cell g l = cell_at (drop l.cell-index l.cells) l.node ≡ cell_at l.cells l.node
