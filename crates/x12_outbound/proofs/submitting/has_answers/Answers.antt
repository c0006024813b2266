use Rattle.std.proofs.Common.{◌≡◌, ◌==◌, true, not, ◌||◌, bytes_eq, codes, ap, ◌∙◌, sym, length, map}
use Rattle.std.specs.List.{list_any}
use Rattle.x12_envelopes.specs.declared.shape.GroupView.{GroupView}
use Rattle.x12_envelopes.specs.Shape.{group_view}
use Rattle.x12_judge.specs.Verdict.{group_is_acknowledgment}
use Rattle.x12_numbers.proofs.Shelf.{list_any-map}
use Rattle.x12_outbound.proofs.submitting.has_answers.Goals as goal

pub returns-else-not-is_empty : goal.returns-else-not-is_empty
returns-else-not-is_empty c = λ d.
    let tas = c.args.outline.now.tas in
    let groups = c.args.outline.now.groups.items in
    let none : (length tas.items == 0) ≡ true = sym (ap (λ n. n == 0) tas.ok.0) ∙ sym c.is_empty.ensures ∙ c.if-not-is_empty.false in
    c.have_answers.ensures ∙ ap (list_any (λ (g : GroupView). bytes_eq g.functional (codes "FA"))) c.deref.ensures.value
    ∙ sym (list_any-map group_is_acknowledgment (group_view d) groups)
    ∙ sym (ap (λ b. not b || list_any group_is_acknowledgment (map (group_view d) groups)) none)
