use Rattle.std.proofs.Common.{arith, sym, ◌∙◌}
use Rattle.x12_acks.specs.Answer.{answer_view}
use Rattle.x12_outbound.specs.Plan.{answer_is_unclear}
use Rattle.x12_outbound.proofs.LoopLemmas.{count_yes, count_no}
use Rattle.x12_outbound.proofs.matches.unclear_in.Goals as goal
use Rattle.x12_outbound.proofs.matches.unclear_in.Goals.{then-is_unclear, else-is_unclear}

-- the next answer is counted if it is unclear
pub loop-answer-preserved : goal.loop-answer-preserved
loop-answer-preserved c =
    let before = c.loop-answer.invariant in
    let answer = c.answer-item.result in
    elim c.if-is_unclear.branch [
      | then-is_unclear w ↦
          let more = count_yes answer_view answer_is_unclear c.args.answers.now c.loop-answer.answer-index answer c.loop-answer-test.true c.answer-item.is (sym c.is_unclear.ensures ∙ w.if-is_unclear.true) in
          record { counted = omega (arith, more, before.counted, w.count-is); few = omega (arith, before.few, w.count-is) }
      | else-is_unclear w ↦
          let same = count_no answer_view answer_is_unclear c.args.answers.now c.loop-answer.answer-index answer c.loop-answer-test.true c.answer-item.is (sym c.is_unclear.ensures ∙ w.if-is_unclear.false) in
          record { counted = omega (arith, same, before.counted, w.count-is); few = omega (arith, before.few, w.count-is) }
    ]
