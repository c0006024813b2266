use Rattle.std.proofs.Common.{refl, sym, ◌∙◌}
use Rattle.x12_lint.proofs.ElementLemmas.{listed_first, listed_behind, listed_last}
use Rattle.x12_lint.proofs.element.is_one_of.Goals as goal

pub loop-code-preserved : goal.loop-code-preserved
loop-code-preserved c =
    listed_behind c.loop-code.rest.now c.in-Some.code.now c.in-Some.behind.now c.args.text.now c.in-Some.ensures.some (sym c.eq.ensures ∙ c.if-eq.false)
    ∙ c.loop-code.invariant

pub returns-then-eq : goal.returns-then-eq
returns-then-eq c =
    sym (sym c.loop-code.invariant
    ∙ listed_first c.loop-code.rest.now c.in-Some.code.now c.in-Some.behind.now c.args.text.now c.in-Some.ensures.some (sym c.eq.ensures ∙ c.if-eq.true))

pub returns : goal.returns
returns c =
    c.eq-2.ensures ∙ sym (listed_last c.loop-code.rest.now c.args.text.now (c.in_default.ensures.none refl)) ∙ c.loop-code.invariant
