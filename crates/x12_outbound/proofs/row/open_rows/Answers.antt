use Rattle.std.proofs.Common.{arith, sym, ◌∙◌}
use Rattle.x12_outbound.specs.Entry.{row_is_open}
use Rattle.x12_outbound.specs.Ledger.{LedgerRow, row_view}
use Rattle.x12_outbound.proofs.LoopLemmas.{count_yes, count_no}
use Rattle.x12_outbound.proofs.row.open_rows.Goals as goal
use Rattle.x12_outbound.proofs.row.open_rows.Goals.{then-is_open, else-is_open}

-- the next row is counted if it is open
pub loop-row-preserved : goal.loop-row-preserved
loop-row-preserved c =
    let p = λ (r : LedgerRow). row_is_open r.interchange in
    let before = c.loop-row.invariant in
    let row = c.row-item.result in
    elim c.if-is_open.branch [
      | then-is_open w ↦
          let more = count_yes row_view p c.args.rows.now c.loop-row.row-index row c.loop-row-test.true c.row-item.is (sym c.is_open.ensures ∙ w.if-is_open.true) in
          record { counted = omega (arith, more, before.counted, w.count-is); few = omega (arith, before.few, w.count-is) }
      | else-is_open w ↦
          let same = count_no row_view p c.args.rows.now c.loop-row.row-index row c.loop-row-test.true c.row-item.is (sym c.is_open.ensures ∙ w.if-is_open.false) in
          record { counted = omega (arith, same, before.counted, w.count-is); few = omega (arith, before.few, w.count-is) }
    ]
