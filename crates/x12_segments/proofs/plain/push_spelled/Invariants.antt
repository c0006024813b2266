use Rattle.std.proofs.Common.{◌≡◌, ◌++◌, length}
use Rattle.x12_segments.specs.Plain.{spelled}
use Rattle.x12_segments.proofs.plain.push_spelled.Given as goal

abbrev pub invariant-loop-piece : goal.invariant-loop-piece
invariant-loop-piece l =
    l.out.items ++ spelled l.between l.terminator l.rest ≡ l.fn.out.items ++ spelled l.between l.terminator l.bytes

abbrev pub decreases-loop-piece : goal.decreases-loop-piece
decreases-loop-piece l = length l.rest
