-- what is left decides
use Rattle.std.proofs.Common.{◌≡◌, drop}
use Rattle.x12_nodes.specs.Check.{all_ask_for_nodes}
use Rattle.x12_nodes.proofs.checking.all_are_for_nodes.Given as goal

abbrev pub invariant-loop-cell : goal.invariant-loop-cell
invariant-loop-cell g l =
    all_ask_for_nodes l.cells (drop l.cell-index l.cells) ≡ all_ask_for_nodes l.cells l.cells
