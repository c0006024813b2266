use Rattle.std.proofs.Common.{refl}
use Rattle.x12_acks.proofs.AnswerGroupLemmas.{answered_view}
use Rattle.x12_acks.proofs.interchange_answer.push_answers.Goals as goal

pub returns-clause-written : goal.returns-clause-written
returns-clause-written c =
    answered_view c.args.delims.now c.args.at.now c.args.gcn _ c.args.groups.now c.in-Some.first.now c.in-Some.field-0-1.now _ _ _ _ c.in-Some.ensures.cases.0 c.in_ok-push_gs.ensures.written c.in_ok-push_group_answers.ensures.written refl c.in_ok-push_ge.ensures.written
