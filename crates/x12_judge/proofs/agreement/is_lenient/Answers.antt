use Rattle.std.proofs.Common.{sym, ◌∙◌}
use Rattle.x12_judge.specs.Agreement.{partner_is_lenient, agreement_view}
use Rattle.x12_numbers.proofs.Shelf.{list_any-map}
use Rattle.x12_judge.proofs.agreement.is_lenient.Goals as goal

pub returns : goal.returns
unfolding partner_is_lenient
returns c = c.some_is_lenient.ensures ∙ sym (list_any-map _ agreement_view c.args.agreements.now)
