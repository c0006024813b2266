use Rattle.std.proofs.Common.{refl, ap, sym, ◌∙◌, ◌∷◌}
use Rattle.x12_envelopes.specs.Segment.{parts_of}
use Rattle.x12_envelopes.proofs.CuttingLemmas.{parts_of_cut, parts_of_none, length-parts_of}
use Rattle.x12_envelopes.proofs.cutting.cut_short_segment.Goals as goal

pub returns-in_err-piece-clause-none : goal.returns-in_err-piece-clause-none
returns-in_err-piece-clause-none c = λ _. parts_of_none c.args.delims.now c.args.bytes.now (c.in_err-piece.ensures.none refl)

pub returns-clause-some : goal.returns-clause-some
returns-clause-some c =
    let d = c.args.delims.now in
    parts_of_cut d c.args.bytes.now c.in_ok-piece.piece.now c.in_ok-piece.rest.now c.in_ok-piece.ensures.some
    ∙ ap (λ part. part ∷ parts_of d c.in_ok-piece.rest.now) (sym c.without_line_ends.ensures)

pub returns-in_err-piece-clause-few : goal.returns-in_err-piece-clause-few
returns-in_err-piece-clause-few c = length-parts_of c.args.delims.now c.args.bytes.now

pub returns-clause-few : goal.returns-clause-few
returns-clause-few c = length-parts_of c.args.delims.now c.args.bytes.now
