-- the sets so far, and those that are left
use Rattle.std.proofs.Common.{◌≡◌, ◌+◌, ◌++◌, drop, map}
use Rattle.x12_envelopes.specs.declared.delimiters.Delims.{Delims}
use Rattle.x12_envelopes.specs.Shape.{group_view, set_view}
use Rattle.x12_profile.specs.X12.{sets_of_group}
use Rattle.x12_world.specs.Placing.{outgoing_at, outgoing_view}
use Rattle.x12_world.proofs.PlacingLemmas.{outgoing_sets_at}
use Rattle.x12_world.proofs.placing.push_group.Given as goal

abbrev pub invariant-loop-index : goal.invariant-loop-index
invariant-loop-index l = (d : Delims) → map outgoing_view l.sets.items ++ outgoing_sets_at l.header l.place (group_view d l.group) (map (set_view d) (drop l.index l.group.sets.items)) (l.index + 1)
    ≡ map outgoing_view l.initial.sets.items ++ map (outgoing_at l.header) (sets_of_group (l.place, group_view d l.group))
