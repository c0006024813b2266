use Rattle.std.proofs.Common.{refl}
use Rattle.x12_segments.proofs.PlainLemmas.{piece_added, last_added, spelled_on, spelled_last}
use Rattle.x12_segments.proofs.plain.push_spelled.Goals as goal

pub loop-piece-preserved : goal.loop-piece-preserved
loop-piece-preserved c =
    piece_added _ _ _ _ _ _ _ c.in_ok-push_piece.ensures
    (spelled_on c.args.between.now c.args.terminator c.loop-piece.rest.now c.in-Some.piece.now c.in-Some.behind.now c.in-Some.ensures.some)
    c.loop-piece.invariant

pub returns : goal.returns
returns c =
    last_added _ _ _ _ _ c.in_ok-push_piece-2.ensures
    (spelled_last c.args.between.now c.args.terminator c.loop-piece.rest.now (c.in_default.ensures.none refl))
    c.loop-piece.invariant
