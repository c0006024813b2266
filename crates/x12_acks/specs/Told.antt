-- What a verdict tells of the transaction sets of a submitted interchange, each once and by rising
-- key.
use Rattle.std.specs.Prelude.{◌≡◌, ℕ, Bool, ◌&&◌, ◌==◌, false, List, map, zip, flat_map, Ok}
use Rattle.std.specs.Prelude.{is_some}
use Rattle.std.specs.Prelude.{if◌then◌else◌}
use Rattle.std.specs.List.{list_any, AllByRecursion}
use Rattle.x12_envelopes.specs.declared.party.Party.{Party}
use Rattle.x12_envelopes.specs.declared.header.Header.{Header}
use Rattle.x12_envelopes.specs.Outline.{outline_of}
use Rattle.x12_envelopes.specs.Shape.{Interchange}
use Rattle.x12_judge.specs.Controls.{JudgingTerms}
use Rattle.x12_judge.specs.declared.verdict.SetResult.{SetResult}
use Rattle.x12_judge.specs.declared.verdict.SetResult.TheVariants.{Accepted, Noted, Rejected}
use Rattle.x12_judge.specs.Set.{TransactionSetVerdict}
use Rattle.x12_judge.specs.Group.{FunctionalGroupVerdict}
use Rattle.x12_judge.specs.Verdict.{InterchangeVerdict, refused, judged, group_is_acknowledgment}
use Rattle.x12_judge.specs.Verdict.{judgement_of}
use Rattle.x12_acks.specs.Submission.{Submission, KeyedSet, KeyedGroup, keyed_groups, keyed_sets}
use Rattle.x12_acks.specs.Submission.{submission_of}
use Rattle.x12_acks.specs.Evidence.{rejected, Evidence, tells, tells_each, fate_of_result}
use Rattle.x12_acks.specs.Accepted.{AcceptedSet, accepted_by_verdict, noted_by_verdict}

-- By place: of each set that the verdict accepts, that it is, or that errors were noted; rejected, of each
-- other.

-- one of these stands at the place of a group and of a set
abbrev pub is_among : List AcceptedSet → ℕ → ℕ → Bool
is_among sets group set = list_any (λ s. (s.key.group == group) && (s.key.set == set)) sets

-- the result of a set that is among those with errors noted or not, and among the accepted ones or not
abbrev pub result_if : Bool → Bool → SetResult
result_if noted accepted =
    if accepted then (if noted then Noted else Accepted)
    else Rejected

-- the result of the set at a place, by which sets are accepted, and which of these with errors noted
abbrev pub result_among : List AcceptedSet → List AcceptedSet → ℕ → ℕ → SetResult
result_among noted accepted group set =
    result_if (is_among noted group set) (is_among accepted group set)

-- the result of the set at a place by a verdict
abbrev pub result_by_verdict : Party → ℕ → InterchangeVerdict → ℕ → ℕ → SetResult
result_by_verdict sender icn v =
    result_among (noted_by_verdict sender icn v) (accepted_by_verdict sender icn v)

-- what is told of a set, by the results at places
abbrev pub told_at : (ℕ → ℕ → SetResult) → KeyedSet → Evidence
told_at results s = tells s.key (fate_of_result (results s.key.group s.key.set))

-- what a verdict tells of a submitted interchange
unfoldable pub told_by_place : Submission → InterchangeVerdict → List Evidence
told_by_place e v = map (told_at (result_by_verdict e.sender e.icn v)) (keyed_sets e)

-- In the verdict's own words: group by group, and set by set.

abbrev pub set_told : KeyedSet → TransactionSetVerdict → Evidence
set_told s v = tells s.key (fate_of_result v.result)

-- a refused group rejects each of its sets
abbrev pub group_told : KeyedGroup → FunctionalGroupVerdict → List Evidence
group_told g v =
    if is_some v.refused then tells_each rejected g.sets
    else map (λ p. set_told p.0 p.1) (zip g.sets v.sets)

-- a refused interchange rejects each of its sets
unfoldable pub verdict_told : Submission → InterchangeVerdict → List Evidence
verdict_told e (refused note) = tells_each rejected (keyed_sets e)
verdict_told e (judged groups) = flat_map (λ p. group_told p.0 p.1) (zip (keyed_groups e) groups)

-- Both are the same, of an interchange that can be read and has no group of acknowledgments.
abbrev pub VerdictIsToldByPlace : Type 0
VerdictIsToldByPlace =
    (me : Party) (terms : JudgingTerms) (h : Header) (bytes : List ℕ)
    (x : Interchange) →
    outline_of h.delims bytes ≡ Ok x →
    AllByRecursion (λ g. group_is_acknowledgment g ≡ false) x.groups →
    verdict_told (submission_of h bytes x) (judgement_of me terms h bytes).verdict
    ≡ told_by_place (submission_of h bytes x) (judgement_of me terms h bytes).verdict
