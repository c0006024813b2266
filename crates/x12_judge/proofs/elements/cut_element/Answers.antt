use Rattle.std.proofs.Common.{◌∙◌, [], take, drop, ap, sym, arith}
use Rattle.std.proofs.lemmas.List.{drop_all}
use Rattle.x12_envelopes.proofs.ElementLemmas.{identifier_is}
use Rattle.x12_judge.proofs.TakenElementLemmas.{cut_off}
use Rattle.x12_judge.proofs.elements.cut_element.Goals as goal

pub returns-in-Some-clause-first : goal.returns-in-Some-clause-first
returns-in-Some-clause-first c =
    c.split_at.ensures.front ∙ ap (λ n. take n c.args.bytes.now) c.front_len.ensures.count ∙ identifier_is c.args.delims.now c.args.bytes.now

pub returns-in-None-clause-first : goal.returns-in-None-clause-first
returns-in-None-clause-first c =
    c.split_at.ensures.front ∙ ap (λ n. take n c.args.bytes.now) c.front_len.ensures.count ∙ identifier_is c.args.delims.now c.args.bytes.now

pub returns-in-Some-clause-rest : goal.returns-in-Some-clause-rest
returns-in-Some-clause-rest c =
    let ended = ap (λ k. drop k c.args.bytes.now) (sym c.front_len.ensures.count) ∙ sym c.split_at.ensures.back in
    cut_off c.args.delims.now c.args.bytes.now c.in-Some.behind.now (ap (drop 1) (ended ∙ c.in-Some.ensures.cases.0))

pub returns-in-None-clause-rest : goal.returns-in-None-clause-rest
returns-in-None-clause-rest c =
    let ended = ap (λ k. drop k c.args.bytes.now) (sym c.front_len.ensures.count) ∙ sym c.split_at.ensures.back in
    cut_off c.args.delims.now c.args.bytes.now [] (ap (drop 1) ended ∙ drop_all 1 c.split_at.result.1.now (omega (arith, c.in-None.ensures.cases)))
