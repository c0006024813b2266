use Rattle.std.proofs.Common.{◌≡◌, drop, map}
use Rattle.std.specs.List.{list_all}
use Rattle.x12_judge.specs.Verdict.{group_verdict_view}
use Rattle.x12_inspect.specs.Accepting.{is_group_accepted}
use Rattle.x12_inspect.proofs.accepting.accepts_groups.Given as goal

abbrev pub invariant-loop-group : goal.invariant-loop-group
invariant-loop-group l = list_all is_group_accepted (map group_verdict_view (drop l.group-index l.groups)) ≡ list_all is_group_accepted (map group_verdict_view l.groups)
