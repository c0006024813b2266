use Rattle.std.proofs.Common.{◌≡◌, ◌==◌, false, ◌||◌, ap, ◌∙◌, sym, length, map, vec_len}
use Rattle.std.proofs.lemmas.List.{length-map}
use Rattle.std.specs.List.{list_any}
use Rattle.x12_envelopes.specs.declared.shape.GroupView.{GroupView}
use Rattle.x12_envelopes.specs.Shape.{FunctionalGroup, group_view, set_view}
use Rattle.x12_outbound.proofs.SubmittingLemmas.{any_same}
use Rattle.x12_numbers.proofs.Shelf.{list_any-map}
use Rattle.x12_outbound.proofs.submitting.lacks_set.Goals as goal

pub returns-else-is_empty : goal.returns-else-is_empty
returns-else-is_empty c = λ d.
    let all = c.args.outline.now.groups in
    let lacking = λ (g : FunctionalGroup). length g.sets == 0 in
    let some : (length (map (group_view d) all.items) == 0) ≡ false =
    ap (λ n. n == 0) (length-map all.items (group_view d)) ∙ sym (ap (λ n. n == 0) all.ok.0) ∙ sym c.is_empty.ensures ∙ c.if-is_empty.false in
    c.lack_set.ensures ∙ ap (list_any (λ (g : GroupView). vec_len g.sets == 0)) c.deref.ensures.value
    ∙ any_same (λ (g : GroupView). vec_len g.sets == 0) (λ (g : GroupView). lacking (group_view d g)) all.items
    (λ g. ap (λ n. n == 0) (g.sets.ok.0 ∙ sym (length-map g.sets.items (set_view d))))
    ∙ sym (list_any-map lacking (group_view d) all.items)
    ∙ sym (ap (λ b. b || list_any lacking (map (group_view d) all.items)) some)
