-- what is left decides
use Rattle.std.proofs.Common.{◌≡◌, length, map}
use Rattle.x12_outbound.specs.Entry.{group_row}
use Rattle.x12_verify.specs.Entries.{group_at_rest}
use Rattle.x12_verify.proofs.comparing.are_same_groups.Given as goal

abbrev pub invariant-loop-group : goal.invariant-loop-group
invariant-loop-group l =
    map group_at_rest (map group_row l.left) ≡ map group_at_rest (map group_row l.right) → map group_at_rest (map group_row l.one) ≡ map group_at_rest (map group_row l.other)

abbrev pub decreases-loop-group : goal.decreases-loop-group
decreases-loop-group l = length l.left
