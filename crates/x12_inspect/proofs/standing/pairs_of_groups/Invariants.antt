use Rattle.std.proofs.Common.{◌≡◌, ◌++◌, drop, map, flat_map}
use Rattle.x12_envelopes.specs.declared.delimiters.Delims.{Delims}
use Rattle.x12_envelopes.specs.Shape.{group_view}
use Rattle.x12_inspect.specs.Standing.{pairs_of_group}
use Rattle.x12_inspect.proofs.standing.pairs_of_groups.Given as goal

abbrev pub invariant-loop-group : goal.invariant-loop-group
invariant-loop-group l =
    (d : Delims) →
    l.pairs.items ++ flat_map pairs_of_group (map (group_view d) (drop l.group-index l.groups))
    ≡ flat_map pairs_of_group (map (group_view d) l.groups)
