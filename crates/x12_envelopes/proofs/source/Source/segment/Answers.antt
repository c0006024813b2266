use Rattle.std.proofs.Common.{◌≡◌, refl, sym, ap, subst, ◌∙◌, List, ℕ, drop}
use Rattle.x12_envelopes.specs.Segment.{PlacedSegment, segments_from}
use Rattle.x12_envelopes.specs.Outline.{first_fault}
use Rattle.x12_envelopes.specs.Reading.{IsNext, IsCut}
use Rattle.x12_envelopes.proofs.SegmentLemmas.{next_segment, segments_more, last_segment, place_is}
use Rattle.x12_envelopes.proofs.FirstFaultLemmas.{goes_wrong, ends_fault}
use Rattle.x12_envelopes.proofs.GroupLemmas.{wrong_but}
use Rattle.x12_envelopes.proofs.source.Source.segment.Goals as goal

pub returns-in_default-clause-fault : goal.returns-in_default-clause-fault
returns-in_default-clause-fault c =
    let d = c.args.self.now.delims in
    let rest = c.split_at.result.1.now in
    let alone = last_segment d c.args.at rest (c.in_default.ensures.none refl) in
    let from : segments_from d c.args.at (drop c.args.at c.args.self.now.input.now) ≡ segments_from d c.args.at rest =
    ap (segments_from d c.args.at) (sym c.split_at.ensures.back) in
    ap (first_fault d c.args.level c.args.groups c.args.sets) (from ∙ alone) ∙ ends_fault d c.args.level c.args.groups c.args.sets _ _ c.unended.ensures

pub returns-in-Some-segment_fault-clause-fault : goal.returns-in-Some-segment_fault-clause-fault
returns-in-Some-segment_fault-clause-fault c =
    let d = c.args.self.now.delims in
    let input = c.args.self.now.input.now in
    let cut = subst (λ (b : List ℕ). IsCut d.terminator b c.in-Some.piece.now c.in-Some.field-0-1.now) c.split_at.ensures.back c.in-Some.ensures.some in
    let is = place_is c.args.at c.line_ends-skipped.result c.in-Some.piece.now c.split_at-2.result.1.now c.line_ends-skipped.ensures.count c.split_at-2.ensures.back in
    let next = subst (λ (s : PlacedSegment). IsNext d input c.args.at s) (sym is) (next_segment d input c.args.at c.in-Some.piece.now c.in-Some.field-0-1.now c.requires.within cut) in
    ap (first_fault d c.args.level c.args.groups c.args.sets) next.rest ∙ goes_wrong d c.args.level c.args.groups c.args.sets _ _ _ (segments_more d _ _) (wrong_but d c.args.level c.args.groups c.args.sets _ _ (sym c.segment_fault.ensures ∙ c.in-Some-segment_fault.is))

pub returns-clause-next : goal.returns-clause-next
returns-clause-next c =
    let d = c.args.self.now.delims in
    let input = c.args.self.now.input.now in
    let cut = subst (λ (b : List ℕ). IsCut d.terminator b c.in-Some.piece.now c.in-Some.field-0-1.now) c.split_at.ensures.back c.in-Some.ensures.some in
    let is = place_is c.args.at c.line_ends-skipped.result c.in-Some.piece.now c.split_at-2.result.1.now c.line_ends-skipped.ensures.count c.split_at-2.ensures.back in
    subst (λ (s : PlacedSegment). IsNext d input c.args.at s) (sym is) (next_segment d input c.args.at c.in-Some.piece.now c.in-Some.field-0-1.now c.requires.within cut)
