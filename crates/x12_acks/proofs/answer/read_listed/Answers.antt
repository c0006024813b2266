use Rattle.std.proofs.Common.{ap, sym, ◌∙◌}
use Rattle.std.proofs.lemmas.List.{map_push}
use Rattle.x12_acks.proofs.ReadingLemmas.{ak2_step, ak9_step, ak3_step, ak4_step, ak5_step, ak4_astray, between_astray, in_set_astray, ended, says_unclear, says_ended, in_front, in_front-one}
use Rattle.x12_acks.proofs.answer.read_listed.Goals as goal

pub loop-statement-preserved-in-Ak2 : goal.loop-statement-preserved-in-Ak2
loop-statement-preserved-in-Ak2 c =
    ap (in_front _) (sym (ak2_step c.in-Between.is c.in-Ak2.is c.in-Some.ensures.steps)) ∙ c.loop-statement.invariant

pub returns-in-Ak9 : goal.returns-in-Ak9
returns-in-Ak9 c =
    c.read_end.ensures
    ∙ says_ended _ _ _ _ _ c.loop-statement.invariant
    (ak9_step c.in-Between.is c.in-Ak9.is c.in-Some.ensures.steps)

pub returns-in_default-statement : goal.returns-in_default-statement
returns-in_default-statement c =
    says_unclear _ _ _ c.loop-statement.invariant
    (between_astray c.in-Between.is c.in_default-statement.not-Ak2 c.in_default-statement.not-Ak9 c.in-Some.ensures.steps)

pub loop-statement-preserved-in-Ak3 : goal.loop-statement-preserved-in-Ak3
loop-statement-preserved-in-Ak3 c =
    ap (in_front _) (sym (ak3_step c.in-InSet.is c.in-Ak3.is c.in-Some.ensures.steps)) ∙ c.loop-statement.invariant

pub returns-then-not-noted : goal.returns-then-not-noted
returns-then-not-noted c =
    says_unclear _ _ _ c.loop-statement.invariant
    (ak4_astray c.in-InSet.is c.if-not-noted.true c.in-Ak4.is c.in-Some.ensures.steps)

pub loop-statement-preserved-else-not-noted : goal.loop-statement-preserved-else-not-noted
loop-statement-preserved-else-not-noted c =
    ap (in_front _) (sym (ak4_step c.in-InSet.is c.if-not-noted.false c.in-Ak4.is c.in-Some.ensures.steps))
    ∙ c.loop-statement.invariant

pub loop-statement-preserved : goal.loop-statement-preserved
loop-statement-preserved c =
    let listed = ak5_step c.in-InSet.is c.in-Ak5.is c.in-Some.ensures.steps in
    rw (c.in_ok-push-in-Ak5.ensures.items, map_push) (sym (in_front-one _ _ _ _) ∙ ap (in_front _) (sym listed) ∙ c.loop-statement.invariant)

pub returns-in_default-statement-2 : goal.returns-in_default-statement-2
returns-in_default-statement-2 c =
    let other = c.in_default-statement-2 in
    says_unclear _ _ _ c.loop-statement.invariant
    (in_set_astray c.in-InSet.is other.not-Ak3 other.not-Ak4 other.not-Ak5 c.in-Some.ensures.steps)

pub returns : goal.returns
returns c = says_unclear _ _ _ c.loop-statement.invariant (ended _ c.in_default.ensures.steps.0)
