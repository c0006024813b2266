use Rattle.std.proofs.Common.{◌≡◌, take, map, filter}
use Rattle.std.specs.Arc.{arc_slice_items}
use Rattle.x12_outbound.specs.Ledger.{LedgerRow, row_view, row_is_due}
use Rattle.x12_outbound.proofs.row.due_rows.Given as goal

-- those so far that are due are listed
abbrev pub invariant-loop-row : goal.invariant-loop-row
invariant-loop-row l =
    map arc_slice_items l.due.items ≡ map (λ (r : LedgerRow). r.interchange.bytes) (filter (row_is_due l.now) (take l.row-index (map row_view l.rows)))
