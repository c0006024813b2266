use Rattle.std.proofs.Common.{◌≡◌, ◌<◌, List, [], ◌∷◌, arith, true, cond, not, ◌&&◌, ap, ap₂, sym, ◌∙◌, bytes_eq, length, map, refl, take}
use Rattle.std.specs.Ordering.{is_eq}
use Rattle.std.specs.List.{list_any}
use Rattle.std.specs.BTreeSet.{contains}
use Rattle.std.proofs.lemmas.Map.Text.{is_eq-slice_cmp}
use Rattle.x12_envelopes.specs.declared.shape.SetView.{SetView}
use Rattle.x12_envelopes.specs.Shape.{TransactionSet, set_view, bytes_of_set_no}
use Rattle.x12_profile.specs.X12.{are_new_numbers}
use Rattle.x12_outbound.proofs.TwiceLemmas.{either, seen_next, new_next, told_no, told_yes, twice}
use Rattle.x12_outbound.proofs.submitting.has_number_twice.Invariants.{order}
use Rattle.x12_outbound.proofs.submitting.has_number_twice.Goals as goal

-- one number doesn't stand twice
few : (view : SetView → TransactionSet) (sets : List SetView) → length sets < 2 → are_new_numbers (map view sets) ≡ true
few view [] is = refl
few view (s ∷ []) is = refl
few view (s ∷ t ∷ sets) is = absurd (omega arith)

pub returns-then-sets-lt2 : goal.returns-then-sets-lt2
returns-then-sets-lt2 c = λ d. rw (few (set_view d) c.args.sets.now c.if-sets-lt2.true) refl

pub loop-set-preserved : goal.loop-set-preserved
loop-set-preserved c =
    let sets = c.args.sets.now in
    let i = c.loop-set.set-index in
    let x = c.set-item.result in
    let so_far = c.loop-set.invariant in
    let law = c.set_numbers_compare_as_bytes.ensures in
    record {
      seen = λ n.
          c.in_ok-insert.ensures.updates.0 n
          ∙ ap₂ (λ b r. cond b true r) (ap is_eq (law.order x.number n) ∙ is_eq-slice_cmp (bytes_of_set_no x.number) (bytes_of_set_no n)) (so_far.seen n)
          ∙ either (bytes_eq (bytes_of_set_no x.number) (bytes_of_set_no n)) (list_any (λ s. bytes_eq (bytes_of_set_no s.number) (bytes_of_set_no n)) (take i sets))
          ∙ sym (seen_next sets i x c.loop-set-test.true c.set-item.is (λ s. bytes_eq (bytes_of_set_no s.number) (bytes_of_set_no n)));
      once = λ d.
          new_next (set_view d) sets i x c.loop-set-test.true c.set-item.is
          ∙ ap₂ (λ a b. a && not b) (so_far.once d)
          (sym (so_far.seen x.number) ∙ told_no c.in_ok-insert.field-0 (contains order c.loop-set.seen x.number) c.in_ok-insert.ensures.added c.if-not-branch.false);
    }

pub returns-then-not-branch : goal.returns-then-not-branch
returns-then-not-branch c = λ d.
    let x = c.set-item.result in
    twice (set_view d) c.args.sets.now c.loop-set.set-index x c.loop-set-test.true c.set-item.is
    (sym (c.loop-set.invariant.seen x.number) ∙ told_yes c.in_ok-insert.field-0 (contains order c.loop-set.seen x.number) c.in_ok-insert.ensures.added c.if-not-branch.true)
