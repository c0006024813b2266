use Rattle.std.proofs.Common.{◌+◌, refl, sym, ◌∙◌}
use Rattle.x12_envelopes.proofs.TakenLemmas.{none_left, first_left, left_behind, last_left, none_fewer, one_fewer, last_fewer}
use Rattle.x12_envelopes.proofs.remaining.Remaining.take.Goals as goal

pub returns-then-self-clause-first : goal.returns-then-self-clause-first
returns-then-self-clause-first c = sym (none_left c.args.self.now 0 c.if-self.true)

pub returns-then-self-clause-rest : goal.returns-then-self-clause-rest
returns-then-self-clause-rest c = λ n. none_left c.args.self.now n c.if-self.true ∙ sym (none_left c.args.self.now (n + 1) c.if-self.true)

pub returns-in-Some-clause-first : goal.returns-in-Some-clause-first
returns-in-Some-clause-first c = first_left c.args.self.now _ _ c.if-self.false c.in-Some.ensures.some

pub returns-in-Some-clause-rest : goal.returns-in-Some-clause-rest
returns-in-Some-clause-rest c = λ n. left_behind c.args.self.now _ _ n c.if-self.false c.if-self.false c.in-Some.ensures.some

pub returns-in-None-clause-first : goal.returns-in-None-clause-first
returns-in-None-clause-first c = first_left c.args.self.now _ _ c.if-self.false (c.in-None.ensures.none refl)

pub returns-in-None-clause-rest : goal.returns-in-None-clause-rest
returns-in-None-clause-rest c = λ n. none_left _ n refl ∙ last_left c.args.self.now n c.if-self.false (c.in-None.ensures.none refl)

pub returns-then-self-clause-fewer : goal.returns-then-self-clause-fewer
returns-then-self-clause-fewer c = none_fewer c.args.self.now c.if-self.true

pub returns-in-Some-clause-fewer : goal.returns-in-Some-clause-fewer
returns-in-Some-clause-fewer c = one_fewer c.args.self.now _ _ c.if-self.false c.if-self.false c.in-Some.ensures.some

pub returns-in-None-clause-fewer : goal.returns-in-None-clause-fewer
returns-in-None-clause-fewer c = last_fewer c.args.self.now _ c.if-self.false refl (c.in-None.ensures.none refl)
