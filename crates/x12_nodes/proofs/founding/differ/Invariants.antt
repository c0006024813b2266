-- what is left decides
use Rattle.std.proofs.Common.{◌≡◌, length}
use Rattle.x12_world.specs.Founding.{all_differ}
use Rattle.x12_nodes.proofs.founding.differ.Given as goal

abbrev pub invariant-loop-first : goal.invariant-loop-first
invariant-loop-first l =
    all_differ l.rest ≡ all_differ l.parties

abbrev pub decreases-loop-first : goal.decreases-loop-first
decreases-loop-first l = length l.rest
