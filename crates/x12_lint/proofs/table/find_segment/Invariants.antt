use Rattle.std.proofs.Common.{◌≡◌, drop, find, bytes_eq}
use Rattle.x12_lint.proofs.table.find_segment.Given as goal

abbrev pub invariant-loop-row : goal.invariant-loop-row
invariant-loop-row l =
    find (λ r. bytes_eq r.segment.items l.name) (drop l.row-index l.segments)
    ≡ find (λ r. bytes_eq r.segment.items l.name) l.segments
