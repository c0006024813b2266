use Rattle.std.proofs.Common.{◌≡◌, ◌∙◌, ap, sym, map, refl, arith}
use Rattle.std.proofs.lemmas.Grind.{common_steps}
use Rattle.x12_envelopes.specs.declared.shape.SetView.{SetView}
use Rattle.x12_envelopes.specs.Shape.{set_view}
use Rattle.x12_acks.specs.Submission.{submitted_set}
use Rattle.x12_outbound.specs.Entry.{set_row, pending_set, pending_entry}
use Rattle.x12_outbound.proofs.CopyLemmas.{all_made}
use Rattle.x12_numbers.proofs.Shelf.{map_twice}
use Rattle.x12_outbound.proofs.entry.EntryGroup.of.Goals as goal

-- all sets are entered
pub returns : goal.returns
returns c d =
    let sets = c.args.group.now.sets.items in
    let pending = λ (s : SetView). pending_set (submitted_set (set_view d s)) in
    let made : map set_row c.loop-set.sets.items ≡ map pending c.deref-set-items.result.now =
    all_made set_row pending c.loop-set.sets.items c.deref-set-items.result.now c.loop-set.set-index c.loop-set-test.false c.loop-set.invariant in
    let same : map set_row c.loop-set.sets.items ≡ map pending_set (map submitted_set (map (set_view d) sets)) =
    made ∙ ap (map pending) c.deref-set-items.ensures.value
    ∙ sym (map_twice pending_set (λ s. submitted_set (set_view d s)) sets) ∙ ap (map pending_set) (sym (map_twice submitted_set (set_view d) sets)) in
    rw same refl

pub loop-set-preserved : goal.loop-set-preserved
unfolding pending_entry
loop-set-preserved c = grind (arith, common_steps)
