-- the sets so far, and those of the groups that are left
use Rattle.std.proofs.Common.{◌≡◌, ◌+◌, ◌++◌, drop, map}
use Rattle.x12_envelopes.specs.declared.delimiters.Delims.{Delims}
use Rattle.x12_envelopes.specs.Shape.{group_view}
use Rattle.x12_world.specs.Placing.{outgoing_at, outgoing_view, sets_of_groups}
use Rattle.x12_world.proofs.PlacingLemmas.{outgoing_from}
use Rattle.x12_world.proofs.placing.push_groups.Given as goal

abbrev pub invariant-loop-index : goal.invariant-loop-index
invariant-loop-index l = (d : Delims) → map outgoing_view l.sets.items ++ outgoing_from l.header (map (group_view d) (drop l.index l.groups)) (l.index + 1)
    ≡ map outgoing_view l.initial.sets.items ++ map (outgoing_at l.header) (sets_of_groups d l.groups)
