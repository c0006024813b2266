use Rattle.std.proofs.Common.{◌++◌, ℕ, List, length}
use Rattle.x12_envelopes.specs.Transmission.{AreSlices}
use Rattle.x12_envelopes.specs.Writing.{texts}
use Rattle.x12_envelopes.proofs.transmission.split_transmission.Given as goal

abbrev pub invariant-loop-slice : goal.invariant-loop-slice
invariant-loop-slice l = (more : List (List ℕ)) → AreSlices more l.rest → AreSlices (texts l.slices.items ++ more) l.bytes

abbrev pub decreases-loop-slice : goal.decreases-loop-slice
decreases-loop-slice l = length l.rest
