-- what was put out, and the merge of what is left, is the merge of all
use Rattle.std.proofs.Common.{◌≡◌, ◌+◌, ◌++◌, length}
use Rattle.x12_nodes.specs.Merging.{merged_by, stamp_itself}
use Rattle.x12_nodes.proofs.merging.merge.Given as goal

abbrev pub invariant-loop-x : goal.invariant-loop-x
invariant-loop-x l = l.out.items ++ merged_by stamp_itself l.xs l.ys ≡ merged_by stamp_itself l.fn.first l.fn.second

abbrev pub decreases-loop-x : goal.decreases-loop-x
decreases-loop-x l = length l.xs + length l.ys
