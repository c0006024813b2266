use Rattle.std.proofs.Common.{◌≡◌, take, map, filter_map}
use Rattle.x12_outbound.specs.Piece.{piece_view}
use Rattle.x12_outbound.specs.Settling.{target_of, target_view}
use Rattle.x12_outbound.proofs.settling.Settling.targets.Given as goal

-- the targets of the pieces so far
abbrev pub invariant-loop-piece : goal.invariant-loop-piece
invariant-loop-piece l =
    map target_view l.targets.items ≡ filter_map (λ p. target_of (piece_view p)) (take l.piece-index l.piece-items)
