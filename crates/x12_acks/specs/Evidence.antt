-- The evidence that answers bring to a sender: which of its submitted transaction sets were
-- accepted, with or without errors noted, or rejected.
use Rattle.std.specs.Prelude.{ℕ, Bool, ◌&&◌, ◌||◌, not, List, [], ◌∷◌, ◌++◌, map, ◌==◌, Option, unwrap_or, option_map, bytes_eq, find, filter, flat_map}
use Rattle.std.specs.List.{list_any}
use Rattle.x12_envelopes.specs.declared.party.Party.{Party}
use Rattle.x12_envelopes.specs.declared.shape.AcknowledgmentCode.TheVariants as interchange
use Rattle.x12_judge.specs.Agreement.{is_same_party}
use Rattle.x12_judge.specs.declared.verdict.SetResult.{SetResult}
use Rattle.x12_judge.specs.declared.verdict.SetResult.TheVariants as result
use Rattle.x12_acks.specs.declared.answer.AnswerCode.{AnswerCode}
use Rattle.x12_acks.specs.declared.answer.AnswerCode.TheVariants.{Accepted, ErrorsNoted, PartiallyAccepted}
use Rattle.x12_acks.specs.Answer.{Acknowledgment, of_interchange, of_group, unclear, FunctionalGroupAnswer, TransactionSetAnswer}
use Rattle.x12_acks.specs.Submission.{Submission, TransactionSetKey, KeyedSet, KeyedGroup, keyed_groups, keyed_sets}

-- how a transaction set ends
pub data FinalFate : Type 0 where
  accepted noted rejected : FinalFate

-- a piece of evidence: that this transaction set was accepted, accepted with errors noted, or rejected; or
-- an answer to nothing that was submitted
pub data Evidence : Type 0 where
  tells : TransactionSetKey → FinalFate → Evidence
  unmatched : Evidence

-- the same fate for each of these transaction sets
abbrev pub tells_each : FinalFate → List KeyedSet → List Evidence
tells_each fate sets = map (λ s. tells s.key fate) sets

-- AK501: A accepts, E accepts with errors noted, and R, M, W and X reject
abbrev pub result_of_code : AnswerCode → SetResult
result_of_code Accepted = result.Accepted
result_of_code ErrorsNoted = result.Noted
result_of_code code = result.Rejected

-- the fate that a transaction set's sender is told
abbrev pub fate_of_result : SetResult → FinalFate
fate_of_result result.Accepted = accepted
fate_of_result result.Noted = noted
fate_of_result result.Rejected = rejected

abbrev pub fate_of_code : AnswerCode → FinalFate
fate_of_code code = fate_of_result (result_of_code code)

-- a listed transaction set, by its number among those of the group
abbrev pub listed_evidence : List KeyedSet → TransactionSetAnswer → Evidence
listed_evidence sets a =
    unwrap_or (option_map (λ s. tells s.key (fate_of_code a.code))
    (find (λ s. bytes_eq s.number a.number) sets)) unmatched

-- the transaction sets of a group that aren't listed
abbrev pub unlisted : List TransactionSetAnswer → List KeyedSet → List KeyedSet
unlisted listed sets = filter (λ s. not (list_any (λ a. bytes_eq a.number s.number) listed)) sets

-- AK901 of a group with these transaction sets: A and E accept all that aren't listed, P says
-- nothing of them, and R, M, W and X reject all, whatever is listed
unfoldable pub group_evidence :
    AnswerCode → List TransactionSetAnswer → List KeyedSet → List Evidence
group_evidence Accepted listed sets =
    map (listed_evidence sets) listed ++ tells_each accepted (unlisted listed sets)
group_evidence ErrorsNoted listed sets =
    map (listed_evidence sets) listed ++ tells_each accepted (unlisted listed sets)
group_evidence PartiallyAccepted listed sets = map (listed_evidence sets) listed
group_evidence code listed sets = tells_each rejected sets

-- an interchange is acknowledged by its receiver or by one of the sender's hubs
abbrev pub is_acknowledged_by : List Party → Party → ℕ → Submission → Bool
is_acknowledged_by hubs from icn e =
    e.icn == icn && (is_same_party e.receiver from || list_any (is_same_party from) hubs)

abbrev pub found_interchange : List Party → List Submission → Party → ℕ → Option Submission
found_interchange hubs submissions from icn = find (is_acknowledged_by hubs from icn) submissions

-- a functional group is acknowledged by the receiver of its interchange alone
abbrev pub groups_to : List Submission → Party → List KeyedGroup
groups_to submissions to =
    flat_map keyed_groups (filter (λ e. is_same_party e.receiver to) submissions)

abbrev pub found_group : List Submission → Party → FunctionalGroupAnswer → Option KeyedGroup
found_group submissions from a =
    find (λ g. bytes_eq g.functional a.functional && g.number == a.number)
    (groups_to submissions from)

-- the evidence of what was found, and else one unmatched piece
abbrev pub or_unmatched : Option (List Evidence) → List Evidence
or_unmatched found = unwrap_or found (unmatched ∷ [])

-- the evidence of one answer from this party, for the sender of these interchanges and its hubs
unfoldable pub answer_evidence :
    List Party → List Submission → Party → Acknowledgment → List Evidence
answer_evidence hubs submissions from (of_interchange icn interchange.Rejected note) =
    or_unmatched (option_map (λ e. tells_each rejected (keyed_sets e))
    (found_interchange hubs submissions from icn))
answer_evidence hubs submissions from (of_interchange icn code note) = []
answer_evidence hubs submissions from (of_group a) =
    or_unmatched (option_map (λ g. group_evidence a.code a.sets g.sets)
    (found_group submissions from a))
answer_evidence hubs submissions from unclear = []

-- the evidence of the answers of an interchange from this party, in order
unfoldable pub evidence_of :
    List Party → List Submission → Party → List Acknowledgment → List Evidence
evidence_of hubs submissions from answers = flat_map (answer_evidence hubs submissions from) answers
