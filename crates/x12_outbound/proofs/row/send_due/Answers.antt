use Rattle.std.proofs.Common.{arith, map}
use Rattle.std.proofs.lemmas.List.{length-map}
use Rattle.x12_outbound.specs.Ledger.{row_view, row_sent_if_due}
use Rattle.x12_outbound.proofs.LoopLemmas.{written_more}
use Rattle.x12_outbound.proofs.row.send_due.Goals as goal

-- the next row is sent if it is due
pub loop-i-preserved : goal.loop-i-preserved
loop-i-preserved c =
    let long = length-map c.args.rows.now row_view in
    written_more row_view (row_sent_if_due c.args.now) (map row_view c.args.rows.now) c.loop-i.rows c.loop-i.i c.index-rows-i.result _
    (omega (arith, c.loop-i-test.true, c.loop-i.auto.rows)) (omega (arith, long, c.loop-i.auto.rows)) c.loop-i.invariant c.index-rows-i.is
    (rw c.index-rows-i.is c.send_if_due.ensures)
