-- the lists so far, and those of what is left, are all
use Rattle.std.proofs.Common.{◌≡◌, ◌++◌, drop, map}
use Rattle.x12_nodes.specs.Cell.{CellView}
use Rattle.x12_nodes.specs.Check.{stamps_of}
use Rattle.x12_nodes.proofs.checking.stamps_of_logs.Given as goal

abbrev pub invariant-loop-cell : goal.invariant-loop-cell
invariant-loop-cell g l =
    map (λ v. v.items) l.lists.items ++ map (λ (c : CellView). stamps_of c.log) (drop l.cell-index l.cells)
    ≡ map (λ (c : CellView). stamps_of c.log) l.cells
