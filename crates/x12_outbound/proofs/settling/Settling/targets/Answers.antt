use Rattle.std.proofs.Common.{◌∙◌, ap, filter_map}
use Rattle.std.proofs.lemmas.List.{take_all}
use Rattle.x12_outbound.specs.declared.evidence.Piece.{Piece}
use Rattle.x12_outbound.specs.Piece.{piece_view}
use Rattle.x12_outbound.specs.Settling.{target_of, target_view, targets_of}
use Rattle.x12_outbound.proofs.CopyLemmas.{one_picked, none_picked, picked_of}
use Rattle.x12_outbound.proofs.settling.Settling.targets.Goals as goal
use Rattle.x12_outbound.proofs.settling.Settling.targets.Goals.{in-Some+in_ok-push, in_default}

-- the next piece's target is added, if it has one
pub loop-piece-preserved : goal.loop-piece-preserved
loop-piece-preserved c =
    let target = λ (p : Piece). target_of (piece_view p) in
    elim c.match-target.branch [
      | in-Some+in_ok-push w ↦ one_picked target_view c.loop-piece.targets.items c.match-target.targets.items c.left-piece-items.result.now c.loop-piece.piece-index c.piece-item.result c.loop-piece-test.true c.piece-item.is
          target w.in-Some.target (ap (λ v. v.items) w.targets-is ∙ w.in_ok-push.ensures.items) w.in-Some.ensures c.loop-piece.invariant
      | in_default w ↦ none_picked target_view c.loop-piece.targets.items c.match-target.targets.items c.left-piece-items.result.now c.loop-piece.piece-index c.piece-item.result c.loop-piece-test.true c.piece-item.is
          target (ap (λ v. v.items) w.targets-is) w.in_default.ensures c.loop-piece.invariant
    ]

-- no piece is left
pub returns : goal.returns
unfolding targets_of
returns c =
    let of = filter_map (λ (p : Piece). target_of (piece_view p)) in
    c.loop-piece.invariant ∙ ap of (take_all c.loop-piece.piece-index c.left-piece-items.result.now c.loop-piece-test.false)
    ∙ picked_of target_of piece_view c.left-piece-items.result.now ∙ ap (filter_map target_of) c.left-piece-items.ensures
