use Rattle.std.proofs.Common.{◌≡◌, ◌++◌, take, drop, map}
use Rattle.x12_outbound.specs.Ledger.{row_view, row_sent_if_due}
use Rattle.x12_outbound.proofs.row.send_due.Given as goal

-- those so far are sent if they were due, and the others are as they were
abbrev pub invariant-loop-i : goal.invariant-loop-i
invariant-loop-i l =
    let old = map row_view l.initial.rows in
    map row_view l.rows ≡ map (row_sent_if_due l.now) (take l.i old) ++ drop l.i old
