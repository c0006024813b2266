use Rattle.x12_envelopes.proofs.TakenLemmas.{none_over}
use Rattle.x12_envelopes.proofs.remaining.Remaining.end_behind.Goals as goal

pub returns-then-self-clause-over : goal.returns-then-self-clause-over
returns-then-self-clause-over c = λ is. none_over c.args.self.now c.if-self.true
