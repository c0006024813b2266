use Rattle.std.proofs.Common.{◌≡◌, ◌+◌, ◌++◌, ◌∷◌, ◌||◌, ◌&&◌, bytes_eq, codes, true, length, not, ap, sym, ◌∙◌, arith}
use Rattle.x12_envelopes.specs.Segment.{parts_of}
use Rattle.x12_judge.specs.Body.{and_behind, body_left}
use Rattle.x12_judge.specs.Segment.{has_po1, identifier_of, name_is_identifier, notes_from}
use Rattle.x12_judge.specs.Set.{without_trailer}
use Rattle.x12_judge.proofs.BodyLemmas.{none_passed, two_at_hand}
use Rattle.x12_judge.proofs.SegmentNoteLemmas.{ordinary, po1_is_plain}
use Rattle.x12_judge.proofs.SetNoteLemmas.{one_test}
use Rattle.x12_judge.proofs.body.Body.pass_ordinary.Goals.{then-has_po1, else-has_po1, else-not-is_po1-via-then-not-is_po1+else-not-is_ordinary, else-not-is_po1-via-else-not-is_po1}
use Rattle.x12_judge.proofs.body.Body.pass_ordinary.Goals as goal

pub loop-name-init : goal.loop-name-init
loop-name-init c =
    let d = c.args.delims.now in
    let body = c.args.self.now in
    let left = without_trailer body.closed (c.in-Some.bytes.now ∷ parts_of d body.behind.now) in
    let whole : body_left d body ≡ left =
    ap (λ h. without_trailer body.closed (and_behind h (parts_of d body.behind.now))) c.in-Some.is in
    record {
      notes = λ p behind. ap (notes_from d p) whole ∙ ap (λ n. notes_from d n left) (omega arith);
      count = omega (arith, ap length whole);
      po1 = ap (has_po1 d) whole;
    }

pub returns-in_default : goal.returns-in_default
returns-in_default c = none_passed c.args.delims.now (body_left c.args.delims.now c.args.self.now)

pub returns : goal.returns
returns c = c.loop-name.invariant

pub overflow_add-count : goal.overflow_add-count
overflow_add-count c = omega (arith, c.requires, c.loop-name.invariant.count)

pub loop-name-smaller : goal.loop-name-smaller
loop-name-smaller c = omega (arith, ap length c.in-Some-cut_segment.ensures.some)

pub loop-name-preserved : goal.loop-name-preserved
loop-name-preserved c =
    let d = c.args.delims.now in
    let bytes = c.loop-name.bytes.now in
    let next = c.in-Some-cut_segment.next.now in
    let rest = parts_of d c.in-Some-cut_segment.rest.now in
    let closed = c.args.self.now.closed in
    let left = without_trailer closed (next ∷ rest) in
    let took : without_trailer closed (bytes ∷ parts_of d c.loop-name.behind.now) ≡ bytes ∷ left
    = ap (λ xs. without_trailer closed (bytes ∷ xs)) c.in-Some-cut_segment.ensures.some ∙ two_at_hand closed bytes next rest in
    let count = c.loop-name.count in
    let old = c.loop-name.has_po1 in
    let so_far = c.loop-name.invariant in
    let name = identifier_of d bytes in
    let here = bytes_eq name (codes "PO1") in
    let is_po1 : c.eq-is_po1.result ≡ here =
    c.eq-is_po1.ensures
    ∙ ap (λ n. bytes_eq n c.as_slice.result.now) c.identifier-name.ensures
    ∙ ap (λ n. bytes_eq name n) c.as_slice.ensures in
    let plain : (name_is_identifier name && not (bytes_eq name (codes "BEG")) && not (bytes_eq name (codes "CTT"))) ≡ true
    = elim c.else-not-is_po1.branch [
      | else-not-is_po1-via-then-not-is_po1+else-not-is_ordinary w ↦
          ap (λ n. name_is_identifier n && not (bytes_eq n (codes "BEG")) && not (bytes_eq n (codes "CTT"))) (sym c.identifier-name.ensures)
          ∙ sym w.is_ordinary.ensures ∙ w.if-not-is_ordinary.false
      | else-not-is_po1-via-else-not-is_po1 w ↦ po1_is_plain name (sym is_po1 ∙ w.if-not-is_po1.false)
    ] in
    let now_has : c.if-has_po1.has_po1 ≡ (old || here) = elim c.if-has_po1.branch [
      | then-has_po1 w ↦ w.has_po1-is ∙ w.if-has_po1.true ∙ sym (ap (λ b. b || here) w.if-has_po1.true)
      | else-has_po1 w ↦ w.has_po1-is ∙ is_po1 ∙ sym (ap (λ b. b || here) w.if-has_po1.false)
    ] in
    record {
      notes = λ p behind.
          so_far.notes p behind ∙ ap (notes_from d (p + count)) took
          ∙ ap (λ ns. ns ++ notes_from d (p + count + 1) left) (ordinary d (p + count) bytes (omega (arith, behind)) plain)
          ∙ ap (λ n. notes_from d n left) (omega arith);
      count = omega (arith, so_far.count, ap length took);
      po1 = sym (one_test old _ here (has_po1 d left) _ now_has (sym (so_far.po1 ∙ ap (λ xs. old || has_po1 d xs) took)));
    }
