-- What the closure keeps are the agreements of others.
use Rattle.std.proofs.Common.{rules, ◌≡◌, ◌∙◌, ap, map, subst}
use Rattle.std.specs.Prelude.{not}
use Rattle.std.proofs.lemmas.Fn.{filter_same}
use Rattle.x12_judge.specs.Agreement.{is_same_party}
use Rattle.x12_judge.specs.Agreement.{agreement_view}
use Rattle.x12_station.proofs.OnceLemmas.{others_are}
use Rattle.x12_station.proofs.agreeing.leave.Goals as goal

pub returns-clause-others : goal.returns-clause-others
returns-clause-others c =
    ap (map agreement_view) (filter_same _ (λ e. not (is_same_party e.partner c.args.partner)) _
    (λ x b q at. let called = at.called in (subst (λ z. b ≡ not (is_same_party z.partner c.args.partner)) at.shows (search rules), search rules)) _ _ c.retain.ensures.filtered)
    ∙ others_are c.args.partner c.args.agreements.now.items
