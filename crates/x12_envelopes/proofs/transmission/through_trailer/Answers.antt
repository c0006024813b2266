use Rattle.std.proofs.Common.{◌≡◌, ◌+◌, ◌∷◌, length, length-append, ap, sym, refl, ◌∙◌, arith}
use Rattle.x12_envelopes.proofs.CuttingLemmas.{cut_split}
use Rattle.x12_envelopes.proofs.TrailerLemmas.{at_trailer, past_segment, no_trailer}
use Rattle.x12_envelopes.proofs.OtherSegmentLemmas.{skipped}
use Rattle.x12_envelopes.proofs.transmission.through_trailer.Goals as goal

pub returns-in_default-cut-clause-through : goal.returns-in_default-cut-clause-through
returns-in_default-cut-clause-through c =
    let d = c.args.delims.now in
    let near = c.in-Some.near.now in
    sym (no_trailer d near _ (c.in_default-cut.ensures.none refl))
    ∙ sym (skipped d c.loop-near.rest.now near c.loop-near.place c.in-Some.ensures.some)
    ∙ c.loop-near.invariant.way

pub returns-then-is_trailer-clause-through : goal.returns-then-is_trailer-clause-through
returns-then-is_trailer-clause-through c =
    let d = c.args.delims.now in
    let near = c.in-Some.near.now in
    let piece = c.in-Some-cut.piece.now in
    let behind = c.in-Some-cut.behind.now in
    sym (at_trailer d near piece behind _ _ _ (cut_split d.terminator near piece behind c.in-Some-cut.ensures.some) c.without_line_ends.ensures (sym c.if-is_trailer.true ∙ c.is_trailer.ensures) refl)
    ∙ sym (skipped d c.loop-near.rest.now near c.loop-near.place c.in-Some.ensures.some)
    ∙ c.loop-near.invariant.way

pub loop-near-preserved : goal.loop-near-preserved
loop-near-preserved c =
    let d = c.args.delims.now in
    let near = c.in-Some.near.now in
    let piece = c.in-Some-cut.piece.now in
    let behind = c.in-Some-cut.behind.now in
    let whole : length near ≡ length piece + length (d.terminator ∷ behind) =
    ap length c.in-Some-cut.ensures.some.whole ∙ length-append piece (d.terminator ∷ behind) in
    record {
      way =
          sym (past_segment d near piece behind _ _ _ (cut_split d.terminator near piece behind c.in-Some-cut.ensures.some) c.without_line_ends.ensures (sym c.if-is_trailer.false ∙ c.is_trailer.ensures) refl)
          ∙ sym (skipped d c.loop-near.rest.now near c.loop-near.place c.in-Some.ensures.some)
          ∙ c.loop-near.invariant.way;
      place = omega (arith, c.loop-near.invariant.place, whole, c.in-Some.ensures.some.shorter);
    }
