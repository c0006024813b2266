use Rattle.std.proofs.Common.{◌≡◌, drop, map}
use Rattle.std.specs.List.{list_all}
use Rattle.x12_judge.specs.Set.{set_is_accepted}
use Rattle.x12_judge.specs.Verdict.{set_verdict_view}
use Rattle.x12_inspect.proofs.accepting.accepts_sets.Given as goal

abbrev pub invariant-loop-set : goal.invariant-loop-set
invariant-loop-set l = list_all set_is_accepted (map set_verdict_view (drop l.set-index l.sets)) ≡ list_all set_is_accepted (map set_verdict_view l.sets)
