-- what is left decides
use Rattle.std.proofs.Common.{◌≡◌, drop}
use Rattle.x12_nodes.specs.Check.{all_came_rightly}
use Rattle.x12_nodes.proofs.checking.all_come_rightly.Given as goal

abbrev pub invariant-loop-cell : goal.invariant-loop-cell
invariant-loop-cell g l =
    all_came_rightly l.cells (drop l.cell-index l.cells) ≡ all_came_rightly l.cells l.cells
