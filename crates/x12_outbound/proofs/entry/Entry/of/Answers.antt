use Rattle.std.proofs.Common.{◌≡◌, ◌∙◌, ap, sym, map, refl}
use Rattle.x12_envelopes.specs.Shape.{group_view}
use Rattle.x12_acks.specs.Submission.{submission_of, submitted_group as sent_group}
use Rattle.x12_outbound.specs.Entry.{group_row, pending_group, pending_entry}
use Rattle.x12_outbound.proofs.CopyLemmas.{all_made, one_made}
use Rattle.x12_numbers.proofs.Shelf.{map_twice}
use Rattle.x12_outbound.proofs.entry.Entry.of.Goals as goal

-- the next group is entered
pub loop-group-preserved : goal.loop-group-preserved
loop-group-preserved c =
    let d = c.args.header.now.delims in
    one_made group_row c.loop-group.groups.items c.push.new.self.items c.deref-group-items.result.now c.loop-group.group-index c.group-item.result c.loop-group-test.true c.group-item.is
    (λ g. pending_group (sent_group (group_view d g))) c.in_ok-of.field-0 c.in_ok-push.ensures.items (c.in_ok-of.ensures d) c.loop-group.invariant

-- no group is left
pub returns : goal.returns
unfolding pending_entry submission_of
returns c =
    let d = c.args.header.now.delims in
    let gs = c.args.outline.now.groups.items in
    let made = all_made group_row (λ g. pending_group (sent_group (group_view d g))) c.loop-group.groups.items c.deref-group-items.result.now c.loop-group.group-index c.loop-group-test.false c.loop-group.invariant in
    let same : map group_row c.loop-group.groups.items ≡ map pending_group (map sent_group (map (group_view d) gs)) =
    made ∙ ap (map (λ g. pending_group (sent_group (group_view d g)))) c.deref-group-items.ensures.value
    ∙ sym (map_twice pending_group (λ g. sent_group (group_view d g)) gs) ∙ ap (map pending_group) (sym (map_twice sent_group (group_view d) gs)) in
    rw (same, c.in_ok-from_slice.ensures.ok) refl
