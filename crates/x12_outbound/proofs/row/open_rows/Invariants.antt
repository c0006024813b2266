use Rattle.std.proofs.Common.{◌≡◌, ◌≤◌, take, map, count_by}
use Rattle.x12_outbound.specs.Entry.{row_is_open}
use Rattle.x12_outbound.specs.Ledger.{LedgerRow, row_view}
use Rattle.x12_outbound.proofs.row.open_rows.Given as goal

-- those so far are counted
abbrev pub invariant-loop-row : goal.invariant-loop-row
invariant-loop-row l = record {
  counted : l.count ≡ count_by (λ (r : LedgerRow). row_is_open r.interchange) (take l.row-index (map row_view l.rows));
  few : l.count ≤ l.row-index;
}
