use Rattle.std.proofs.Common.{sym, ◌∙◌}
use Rattle.x12_judge.specs.Agreement.{group_is_agreed, agreement_view}
use Rattle.x12_numbers.proofs.Shelf.{list_any-map}
use Rattle.x12_judge.proofs.agreement.is_group_agreed.Goals as goal

pub returns : goal.returns
unfolding group_is_agreed
returns c = c.some_takes_group.ensures ∙ sym (list_any-map _ agreement_view c.args.agreements.now)
