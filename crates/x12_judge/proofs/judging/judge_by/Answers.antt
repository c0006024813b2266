use Rattle.std.proofs.Common.{ap, sym, subst, ◌∙◌, map}
use Rattle.x12_judge.specs.Agreement.{agreement_view}
use Rattle.x12_judge.specs.Controls.{JudgingTerms}
use Rattle.x12_judge.specs.Verdict.{judgement_by, judgement_of}
use Rattle.x12_judge.specs.Laws.{IsSmallVerdict}
use Rattle.x12_judge.proofs.ListLemmas.{if_ok}
use Rattle.x12_judge.proofs.SmallVerdictLemmas.{judgement_is_small}
use Rattle.x12_judge.proofs.judging.judge_by.Goals as goal

pub returns : goal.returns
unfolding judgement_of
returns c =
    let terms : JudgingTerms = record { agreements = map agreement_view c.args.agreements.now; controls = c.args.controls } in
    let by = ap (judgement_by c.args.me.now terms c.args.header.now) c.in_ok-reading.ensures.is in
    record {
      verdict = if_ok c.judge_reading.result (λ j e. e ∙ by) c.judge_reading.ensures;
      small = if_ok c.judge_reading.result
          (λ j e. subst (λ v. IsSmallVerdict v.verdict) (sym (e ∙ by)) (judgement_is_small c.args.me.now terms c.args.header.now c.args.bytes.now))
          c.judge_reading.ensures;
    }
