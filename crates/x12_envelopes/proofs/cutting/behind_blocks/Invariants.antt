use Rattle.std.proofs.Common.{length}
use Rattle.x12_envelopes.proofs.LineEndLemmas.{IsBehind}
use Rattle.x12_envelopes.proofs.cutting.behind_blocks.Given as goal

abbrev pub invariant-loop-block : goal.invariant-loop-block
invariant-loop-block l = IsBehind l.bytes l.rest

abbrev pub decreases-loop-block : goal.decreases-loop-block
decreases-loop-block l = length l.rest
