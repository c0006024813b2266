-- what is left decides
use Rattle.std.proofs.Common.{◌≡◌, drop}
use Rattle.x12_nodes.specs.Check.{are_numbered}
use Rattle.x12_nodes.proofs.founding.are_numbered.Given as goal

abbrev pub invariant-loop-cell : goal.invariant-loop-cell
invariant-loop-cell g l =
    are_numbered l.number (drop l.cell-index l.cells) ≡ are_numbered 0 l.cells
