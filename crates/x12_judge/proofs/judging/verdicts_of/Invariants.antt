use Rattle.std.proofs.Common.{◌≡◌, ℕ, ◌+◌, ◌++◌, not, Bool, drop, map, filter}
use Rattle.std.specs.List.{enumerate_from}
use Rattle.x12_envelopes.specs.Shape.{FunctionalGroup, group_view}
use Rattle.x12_judge.specs.Agreement.{agreement_view}
use Rattle.x12_judge.specs.Group.{FunctionalGroupVerdict, verdict_of_group}
use Rattle.x12_judge.specs.Verdict.{group_verdict_view, group_is_acknowledgment}
use Rattle.x12_judge.proofs.judging.verdicts_of.Given as goal

abbrev pub invariant-loop-group : goal.invariant-loop-group
invariant-loop-group l =
    let h = l.header in
    let f : ℕ × FunctionalGroup → FunctionalGroupVerdict =
    λ place. verdict_of_group (map agreement_view l.agreements) h.sender h.delims place.0 place.1 in
    let p : ℕ × FunctionalGroup → Bool = λ place. not (group_is_acknowledgment place.1) in
    let left = map (group_view h.delims) (drop l.group-index l.groups) in
    record {
      verdicts :
          map group_verdict_view l.verdicts.items ++ map f (filter p (enumerate_from (l.group-index + 1) left))
          ≡ map f (filter p (enumerate_from 1 (map (group_view h.delims) l.groups)));
      place : l.place ≡ l.group-index + 1;
    }
