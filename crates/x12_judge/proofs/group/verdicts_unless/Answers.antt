use Rattle.std.proofs.Common.{[], map, bytes_eq, if◌then◌else◌, ap, sym, ◌∙◌}
use Rattle.std.specs.List.{list_any}
use Rattle.x12_envelopes.specs.Shape.{group_view, set_view}
use Rattle.x12_judge.specs.Agreement.{agreement_view, set_is_agreed, partner_is_lenient}
use Rattle.x12_judge.specs.Group.{verdicts_of_sets}
use Rattle.x12_judge.proofs.ListLemmas.{if_ok}
use Rattle.x12_judge.proofs.SetVerdictLemmas.{verdicts_by, by_same_test}
use Rattle.x12_judge.proofs.group.verdicts_unless.Goals as goal

pub returns-clause-verdicts : goal.returns-clause-verdicts
unfolding verdicts_of_sets
returns-clause-verdicts c =
    let d = c.args.delims.now in
    let ags = map agreement_view c.args.agreements.now in
    let g = group_view d c.args.group.now in
    let agrees = set_is_agreed ags c.args.partner.now g.functional in
    let received = map (set_view d) c.args.group.now.sets.items in
    let slices =
    ap (λ sets. verdicts_by d (λ set. list_any (λ i. bytes_eq i set) c.deref.result.now) c.is_lenient-lenient.result (map (set_view d) sets))
    c.deref-2.ensures.value in
    let judged =
    slices
    ∙ by_same_test d _ agrees _ (partner_is_lenient ags c.args.partner.now) received
    (λ set. ap (list_any (λ i. bytes_eq i set)) c.deref.ensures ∙ c.in_ok-agreed.ensures set) c.is_lenient-lenient.ensures
    ∙ sym (ap (λ b. if b then [] else verdicts_of_sets ags c.args.partner.now d g) c.if-refused.false) in
    if_ok c.set_verdicts.result (λ vs e. e ∙ judged) c.set_verdicts.ensures.verdicts
