use Rattle.std.proofs.Common.{arith}
use Rattle.x12_acks.proofs.NumberingLemmas.{one_answer_more}
use Rattle.x12_acks.proofs.interchange_answer.push_group_answers.Goals as goal

pub loop-verdict-preserved : goal.loop-verdict-preserved
loop-verdict-preserved c = record {
  written = one_answer_more c.args.delims.now c.args.groups.now c.loop-verdict.verdict-index c.loop-verdict.number c.verdict-item.result _ _ _ (omega arith) c.verdict-item.is c.loop-verdict.invariant.number c.loop-verdict.invariant.written c.in_ok-push_group_answer.ensures.written;
  number = omega (arith, c.loop-verdict.invariant.number);
}
