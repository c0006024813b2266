use Rattle.std.proofs.Common.{◌∙◌, sym}
use Rattle.x12_judge.specs.Verdict.{judgement_view}
use Rattle.x12_verify.proofs.DueLemmas.{reply_was_due}
use Rattle.x12_verify.proofs.due.reply_due.Goals as goal

pub returns-then-are_taken : goal.returns-then-are_taken
returns-then-are_taken c =
    let due = sym c.needs-needed.ensures.reply ∙ c.if-needed.true in
    reply_was_due c.args.header.now (judgement_view c.args.judgement.now) c.args.own.now c.written_at.result c.args.reply.now due (c.are_taken.ensures.icn c.if-are_taken.true)
    (λ takes. c.are_taken.ensures.gcn c.if-are_taken.true (c.needs-needed.ensures.group ∙ takes)) c.written_at.ensures
