-- what is listed so far, and what is left, is all
use Rattle.std.proofs.Common.{◌≡◌, ◌++◌, drop}
use Rattle.x12_nodes.specs.Unlocking.{listed_in_logs}
use Rattle.x12_nodes.proofs.unlocking.list_logs.Given as goal

abbrev pub invariant-loop-cell : goal.invariant-loop-cell
invariant-loop-cell g l =
    l.submitted.items ++ listed_in_logs (drop l.cell-index l.cells) ≡ listed_in_logs l.cells
