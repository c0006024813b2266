-- Whether an interchange is accepted with all that it holds.
use Rattle.std.specs.Prelude.{Bool, false, ◌&&◌, is_none}
use Rattle.std.specs.List.{list_all}
use Rattle.x12_judge.specs.Group.{FunctionalGroupVerdict}
use Rattle.x12_judge.specs.Set.{set_is_accepted}
use Rattle.x12_judge.specs.Verdict.{InterchangeJudgement, InterchangeVerdict, refused, judged}

-- a group that isn't refused, each of whose sets is accepted
abbrev pub is_group_accepted : FunctionalGroupVerdict → Bool
is_group_accepted g = is_none g.refused && list_all set_is_accepted g.sets

-- an interchange without a note, each of whose groups is accepted with all its sets
abbrev pub is_verdict_accepted : InterchangeVerdict → Bool
is_verdict_accepted (refused note) = false
is_verdict_accepted (judged groups) = list_all is_group_accepted groups

abbrev pub is_all_accepted : InterchangeJudgement → Bool
is_all_accepted j = is_verdict_accepted j.verdict
