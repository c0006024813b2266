use Rattle.std.proofs.Common.{◌≡◌, ◌+◌, ℕ}
use Rattle.x12_envelopes.specs.Segment.{element_of}
use Rattle.x12_judge.proofs.elements.behind_elements.Given as goal

abbrev pub invariant-loop : goal.invariant-loop
invariant-loop l = (n : ℕ) → element_of l.delims l.rest n ≡ element_of l.delims l.bytes (n + l.counter)
