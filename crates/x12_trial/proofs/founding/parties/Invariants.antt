use Rattle.std.proofs.Common.{◌≡◌, length}
use Rattle.x12_trial.proofs.founding.parties.Given as goal

abbrev pub invariant-loop-site : goal.invariant-loop-site
invariant-loop-site l = length l.parties.items ≡ l.site-index
