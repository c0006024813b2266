use Rattle.std.proofs.Common.{◌≡◌, ◌++◌, drop, map}
use Rattle.x12_envelopes.specs.declared.delimiters.Delims.{Delims}
use Rattle.x12_envelopes.specs.Shape.{group_view, set_view}
use Rattle.x12_inspect.specs.Standing.{pair_of_set, pairs_of_group}
use Rattle.x12_inspect.proofs.standing.push_group.Given as goal

abbrev pub invariant-loop-set : goal.invariant-loop-set
invariant-loop-set l =
    (d : Delims) →
    l.pairs.items ++ map (pair_of_set (group_view d l.group)) (map (set_view d) (drop l.set-index l.group.sets.items))
    ≡ l.fn.pairs.items ++ pairs_of_group (group_view d l.group)
