use Rattle.std.proofs.Common.{◌∙◌, ap, map}
use Rattle.x12_judge.specs.Agreement.{agreement_view}
use Rattle.x12_judge.specs.Interchange.{reading_view}
use Rattle.x12_judge.specs.Verdict.{judgement_by}
use Rattle.x12_judge.proofs.ListLemmas.{if_ok}
use Rattle.x12_profile.proofs.FieldLemmas.{judged_as_read}
use Rattle.x12_profile.proofs.edition.Edition.judge.Goals as goal

pub returns : goal.returns
returns c = λ bytes read.
    let ags = map agreement_view c.args.agreements.now in
    let h = c.args.header.now in
    let by = ap (λ controls. judgement_by c.args.me.now (record { agreements = ags; controls = controls }) h (reading_view h.delims c.args.reading.now)) c.controls.ensures in
    if_ok c.judge_reading.result (λ j is. is ∙ by ∙ judged_as_read c.args.self c.args.me.now ags h bytes c.args.reading.now read) c.judge_reading.ensures
