use Rattle.x12_judge.specs.Body.{body_left}
use Rattle.x12_judge.proofs.BodyLemmas.{none_passed}
use Rattle.x12_judge.proofs.body.Body.pass_many.Goals as goal

pub returns-then-not-likely : goal.returns-then-not-likely
returns-then-not-likely c = none_passed c.args.delims.now (body_left c.args.delims.now c.args.self.now)
