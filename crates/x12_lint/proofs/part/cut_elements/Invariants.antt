use Rattle.std.proofs.Common.{◌≡◌, ◌++◌, ◌==◌, length}
use Rattle.std.specs.List.{slice_split}
use Rattle.x12_envelopes.specs.Writing.{texts}
use Rattle.x12_lint.proofs.part.cut_elements.Given as goal

abbrev pub invariant-loop-element : goal.invariant-loop-element
invariant-loop-element l =
    texts l.elements.items ++ slice_split (λ b. b == l.delims.element) l.rest
    ≡ slice_split (λ b. b == l.delims.element) l.part

abbrev pub decreases-loop-element : goal.decreases-loop-element
decreases-loop-element l = length l.rest
