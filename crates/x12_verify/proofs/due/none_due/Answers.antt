use Rattle.x12_judge.specs.Verdict.{judgement_view}
use Rattle.x12_verify.proofs.DueLemmas.{none_was_due}
use Rattle.x12_verify.proofs.due.none_due.Goals as goal

pub returns : goal.returns
returns c = none_was_due c.args.header.now (judgement_view c.args.judgement.now) c.args.own.now c.needs.result.reply c.needs.ensures.reply c.if-needs.false c.args.own.now.at
