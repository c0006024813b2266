use Rattle.std.proofs.Common.{◌≡◌, drop, map, not}
use Rattle.std.specs.List.{list_any}
use Rattle.x12_envelopes.specs.declared.delimiters.Delims.{Delims}
use Rattle.x12_envelopes.specs.Shape.{group_view}
use Rattle.x12_profile.specs.X12.{are_new_numbers}
use Rattle.x12_outbound.proofs.submitting.have_number_twice.Given as goal

abbrev pub invariant-loop-group : goal.invariant-loop-group
invariant-loop-group l = (d : Delims) →
    list_any (λ g. not (are_new_numbers g.sets)) (map (group_view d) (drop l.group-index l.groups))
    ≡ list_any (λ g. not (are_new_numbers g.sets)) (map (group_view d) l.groups)
