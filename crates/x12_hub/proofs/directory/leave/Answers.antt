-- What the closure keeps are the entries of others.
use Rattle.std.proofs.Common.{rules, ◌≡◌, ◌∙◌, ap, map, subst}
use Rattle.std.specs.Prelude.{not}
use Rattle.std.proofs.lemmas.Fn.{filter_same}
use Rattle.x12_judge.specs.Agreement.{is_same_party}
use Rattle.x12_hub.specs.Record.{mailbox_view}
use Rattle.x12_hub.proofs.MemoryLemmas.{others_are}
use Rattle.x12_hub.proofs.directory.leave.Goals as goal

pub returns-clause-entries : goal.returns-clause-entries
returns-clause-entries c =
    ap (map mailbox_view) (filter_same _ (λ e. not (is_same_party e.0 c.args.party)) _
    (λ x b q at. let called = at.called in (subst (λ z. b ≡ not (is_same_party z.0 c.args.party)) at.shows (search rules), search rules)) _ _ c.retain.ensures.filtered)
    ∙ others_are c.args.party c.args.directory.now.items
