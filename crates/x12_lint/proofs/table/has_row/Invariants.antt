use Rattle.std.proofs.Common.{◌≡◌, drop, bytes_eq}
use Rattle.std.specs.List.{list_any}
use Rattle.x12_lint.proofs.table.has_row.Given as goal

abbrev pub invariant-loop-row : goal.invariant-loop-row
invariant-loop-row l =
    list_any (λ r. bytes_eq r.segment.items l.name) (drop l.row-index l.rows)
    ≡ list_any (λ r. bytes_eq r.segment.items l.name) l.rows
