use Rattle.std.proofs.Common.{◌≡◌, length}
use Rattle.x12_trial.proofs.founding.sites.Given as goal

abbrev pub invariant-loop-node : goal.invariant-loop-node
invariant-loop-node l = length l.sites.items ≡ l.node
