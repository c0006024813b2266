-- what is left decides
use Rattle.std.proofs.Common.{◌≡◌, length, map}
use Rattle.x12_outbound.specs.Entry.{set_row}
use Rattle.x12_verify.specs.Entries.{set_at_rest}
use Rattle.x12_verify.proofs.comparing.are_same_sets.Given as goal

abbrev pub invariant-loop-set : goal.invariant-loop-set
invariant-loop-set l =
    map set_at_rest (map set_row l.left) ≡ map set_at_rest (map set_row l.right) → map set_at_rest (map set_row l.one) ≡ map set_at_rest (map set_row l.other)

abbrev pub decreases-loop-set : goal.decreases-loop-set
decreases-loop-set l = length l.left
