use Rattle.std.proofs.Common.{◌≡◌, ◌++◌, length}
use Rattle.x12_envelopes.specs.Segment.{parts_of}
use Rattle.x12_envelopes.specs.Writing.{texts}
use Rattle.x12_lint.proofs.part.segments_of.Given as goal

abbrev pub invariant-loop-part : goal.invariant-loop-part
invariant-loop-part l =
    texts l.parts.items ++ parts_of l.delims l.rest ≡ parts_of l.delims l.set

abbrev pub decreases-loop-part : goal.decreases-loop-part
decreases-loop-part l = length (parts_of l.delims l.rest)
