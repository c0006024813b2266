use Rattle.std.proofs.Common.{◌≡◌, length}
use Rattle.x12_trial.proofs.jobs.jobs_of_nodes.Given as goal

abbrev pub invariant-loop-site : goal.invariant-loop-site
invariant-loop-site l = length l.jobs.items ≡ l.site-index
