use Rattle.std.proofs.Common.{◌≡◌, ◌+◌, [], ◌∷◌, ◌||◌, length, flat_map, bytes_eq, codes, ap, sym, ◌∙◌, arith}
use Rattle.x12_judge.specs.Body.{body_left}
use Rattle.x12_judge.specs.Note.{kept_notes}
use Rattle.x12_judge.specs.Keeping.{keeping}
use Rattle.x12_judge.specs.Segment.{has_po1, identifier_of, notes_at, notes_from}
use Rattle.x12_judge.specs.Set.{reported}
use Rattle.x12_judge.proofs.SetNoteLemmas.{one_segment, one_test}
use Rattle.x12_judge.proofs.KeptNoteLemmas.{nothing_noted}
use Rattle.x12_judge.proofs.set.keep_body_notes.Goals.{then-has_po1, else-has_po1, then-has_po1-2, else-has_po1-2}
use Rattle.x12_judge.proofs.set.keep_body_notes.Goals as goal

pub loop-bytes-init : goal.loop-bytes-init
loop-bytes-init c =
    let d = c.args.delims.now in
    let kept = kept_notes c.args.notes.now in
    let left = c.of-body.ensures.left in
    record {
      notes = ap (λ xs. keeping kept (flat_map reported (notes_from d 2 xs))) left;
      position = omega (arith, ap length left);
      behind = omega arith;
      po1 = ap (has_po1 d) left;
      few = omega (arith, c.of-body.ensures.few, ap length left);
    }

pub loop-bytes-preserved : goal.loop-bytes-preserved
loop-bytes-preserved c =
    let d = c.args.delims.now in
    let bytes = c.in-Some.bytes.now in
    let kept = kept_notes c.loop-bytes.notes in
    let more = kept_notes c.keep_notes_at.new.notes in
    let old = c.loop-bytes.has_po1 in
    let now = c.if-has_po1.has_po1 in
    let position = c.loop-bytes.position in
    let left = body_left d c.next_part.new.self in
    let passed = c.pass_many-passed in
    let also = passed.result.has_po1 in
    let rest = body_left d passed.new.self in
    let so_far = c.loop-bytes.invariant in
    let took : body_left d c.loop-bytes.body ≡ bytes ∷ left = c.in-Some.ensures in
    let here = bytes_eq (identifier_of d bytes) (codes "PO1") in
    let now_has : now ≡ (old || here) = elim c.if-has_po1.branch [
      | then-has_po1 w ↦ w.has_po1-is ∙ w.if-has_po1.true ∙ sym (ap (λ b. b || here) w.if-has_po1.true)
      | else-has_po1 w ↦
          w.has_po1-is ∙ w.eq-has_po1.ensures
          ∙ ap (λ n. bytes_eq n w.as_slice.result.now) c.identifier-name.ensures
          ∙ ap (λ n. bytes_eq (identifier_of d bytes) n) w.as_slice.ensures
          ∙ sym (ap (λ b. b || here) w.if-has_po1.false)
    ] in
    let then_has : c.if-has_po1-2.has_po1 ≡ (now || also) = elim c.if-has_po1-2.branch [
      | then-has_po1-2 w ↦ w.has_po1-is ∙ w.if-has_po1-2.true ∙ sym (ap (λ b. b || also) w.if-has_po1-2.true)
      | else-has_po1-2 w ↦ w.has_po1-is ∙ sym (ap (λ b. b || also) w.if-has_po1-2.false)
    ] in
    record {
      notes =
          ap (λ ns. keeping more (flat_map reported ns))
          (ap (λ n. notes_from d n rest) (omega arith) ∙ sym (passed.ensures.notes (position + 1) (omega (arith, so_far.behind))))
          ∙ one_segment kept _ _ (notes_at d position bytes) (notes_from d (position + 1) left) c.in_ok-is_ordinary.ensures.notes
          (ap (λ xs. keeping kept (flat_map reported (notes_from d position xs))) (sym took) ∙ so_far.notes);
      position = omega (arith, ap length took, passed.ensures.count, so_far.position);
      behind = omega (arith, so_far.behind);
      po1 =
          one_test now _ also (has_po1 d rest) _ then_has
          (ap (λ b. now || b) (sym passed.ensures.po1)
          ∙ one_test old _ here (has_po1 d left) _ now_has (ap (λ xs. old || has_po1 d xs) (sym took) ∙ so_far.po1));
      few = so_far.few;
    }

pub returns-clause-notes : goal.returns-clause-notes
returns-clause-notes c =
    let d = c.args.delims.now in
    let end : body_left d c.loop-bytes.body ≡ [] = c.in_default.ensures in
    nothing_noted c.loop-bytes.notes.kept.items c.loop-bytes.notes.has_other (omega (arith, c.loop-bytes.notes.few))
    ∙ ap (λ xs. keeping (kept_notes c.loop-bytes.notes) (flat_map reported (notes_from d c.loop-bytes.position xs))) (sym end)
    ∙ c.loop-bytes.invariant.notes
