-- What a judgement finds wrong with a group, from the whole to the smallest part.
use Rattle.std.specs.Prelude.{ℕ, Bool, true, false, List, [], ◌∷◌, ◌++◌, map, flat_map, Option, Some, None, if◌then◌else◌}
use Rattle.std.specs.List.{enumerate_from}
use Rattle.x12_judge.specs.declared.verdict.GroupRefusal.{GroupRefusal}
use Rattle.x12_judge.specs.Group.{FunctionalGroupVerdict}
use Rattle.x12_judge.specs.declared.verdict.SetResult.{SetResult}
use Rattle.x12_judge.specs.declared.verdict.SetResult.TheVariants.{Accepted, Noted, Rejected}
use Rattle.x12_judge.specs.Set.{TransactionSetVerdict, ReportedNote}

-- Something that is wrong: with a group as a whole, why it is refused (AK905); with a set at its
-- place in its group, from 1, that has codes (AK502); or what is noted of a segment of that set, or
-- of one of its elements (AK3, AK4).
pub data CheckFinding : Type 0 where
  of_group : FunctionalGroupVerdict → GroupRefusal → CheckFinding
  of_set : FunctionalGroupVerdict → ℕ → TransactionSetVerdict → CheckFinding
  of_note : ReportedNote → CheckFinding

-- a set is accepted, and no error of it was noted
abbrev pub is_without_errors : SetResult → Bool
is_without_errors Accepted = true
is_without_errors Noted = false
is_without_errors Rejected = false

-- a set with errors, noted or rejected, then each of its notes
unfoldable pub set_findings : FunctionalGroupVerdict → ℕ → TransactionSetVerdict → List CheckFinding
set_findings g place v =
    if is_without_errors v.result then [] else of_set g place v ∷ map of_note v.notes

-- a set with errors, without its notes
abbrev pub error_findings : FunctionalGroupVerdict → ℕ → TransactionSetVerdict → List CheckFinding
error_findings g place v = if is_without_errors v.result then [] else of_set g place v ∷ []

-- a group that is refused as a whole
abbrev pub refusal_findings : FunctionalGroupVerdict → Option GroupRefusal → List CheckFinding
refusal_findings g None = []
refusal_findings g (Some why) = of_group g why ∷ []

-- why a group is refused, then what is wrong with each of its sets
unfoldable pub group_findings : FunctionalGroupVerdict → List CheckFinding
group_findings g =
    refusal_findings g g.refused
    ++ flat_map (λ s. set_findings g s.0 s.1) (enumerate_from 1 g.sets)
