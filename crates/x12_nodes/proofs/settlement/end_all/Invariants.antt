-- the cells so far, and the nodes that are left, are as many as all; and what is left has room
use Rattle.std.proofs.Common.{◌≡◌, ◌≤◌, ◌+◌, length, vec_len, vec_capacity}
use Rattle.std.specs.Vec.Iter.{into_iter_len}
use Rattle.x12_nodes.proofs.settlement.end_all.Given as goal

abbrev pub invariant-loop-node : goal.invariant-loop-node
invariant-loop-node g l =
    (length l.cells.items + into_iter_len l.left ≡ length l.fn.nodes.items)
    × (into_iter_len l.left + vec_len l.cells ≤ vec_capacity l.cells)

abbrev pub decreases-loop-node : goal.decreases-loop-node
decreases-loop-node g l = into_iter_len l.left
