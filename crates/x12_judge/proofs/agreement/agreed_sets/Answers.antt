use Rattle.std.proofs.Common.{◌++◌, map, flat_map, bytes_eq, ap, sym, ◌∙◌}
use Rattle.std.specs.List.{list_any}
use Rattle.std.proofs.lemmas.List.{append-nil, drop_all}
use Rattle.x12_judge.specs.Agreement.{agreement_view, sets_taken}
use Rattle.x12_judge.proofs.AgreementLemmas.{agreed_is_taken}
use Rattle.x12_judge.proofs.agreement.agreed_sets.Goals as goal

pub returns : goal.returns
returns c set =
    let f = sets_taken c.args.partner.now c.args.functional in
    let sets = c.loop-agreement.sets.items in
    let over = drop_all c.loop-agreement.agreement-index c.args.agreements.now c.loop-agreement-test.false in
    let whole =
    sym (append-nil sets)
    ∙ sym (ap (λ ags. sets ++ flat_map f (map agreement_view ags)) over)
    ∙ c.loop-agreement.invariant in
    ap (list_any (λ i. bytes_eq i set)) whole
    ∙ agreed_is_taken (map agreement_view c.args.agreements.now) c.args.partner.now c.args.functional set
