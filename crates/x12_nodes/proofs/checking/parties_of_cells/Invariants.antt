-- the parties so far, and those of what is left, are all
use Rattle.std.proofs.Common.{◌≡◌, ◌++◌, drop}
use Rattle.x12_nodes.specs.Check.{parties_opened}
use Rattle.x12_nodes.proofs.checking.parties_of_cells.Given as goal

abbrev pub invariant-loop-cell : goal.invariant-loop-cell
invariant-loop-cell g l =
    l.parties.items ++ parties_opened (drop l.cell-index l.cells) ≡ parties_opened l.cells
