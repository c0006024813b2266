use Rattle.std.proofs.Common.{◌≡◌, map, take}
use Rattle.x12_trial.proofs.founding.found_nodes.Given as goal

abbrev pub invariant-loop-site : goal.invariant-loop-site
invariant-loop-site g l = l.nodes.items ≡ map (λ s. s.node) (take l.site-index l.sites)
