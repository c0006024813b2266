-- Which transaction sets of an interchange its reply accepts, by their places: those that its
-- verdict accepts.
use Rattle.std.specs.Prelude.{◌≡◌, ◌≤◌, ℕ, Bool, true, false, not, List, [], ◌∷◌, map, filter, zip, flat_map, if◌then◌else◌, Ok, ◌⊎◌}
use Rattle.std.specs.List.{enumerate_from, AllZip}
use Rattle.x12_envelopes.specs.Place.{its_place, its_item}
use Rattle.x12_envelopes.specs.declared.party.Party.{Party}
use Rattle.x12_envelopes.specs.declared.moment.Moment.{Moment}
use Rattle.x12_envelopes.specs.declared.header.Header.{Header}
use Rattle.x12_envelopes.specs.Header.{header_of}
use Rattle.x12_envelopes.specs.Outline.{outline_of}
use Rattle.x12_envelopes.specs.Envelope.{written}
use Rattle.x12_envelopes.specs.Shape.{Interchange, FunctionalGroup, TransactionSet}
use Rattle.x12_judge.specs.Controls.{JudgingTerms}
use Rattle.x12_judge.specs.declared.verdict.SetResult.{SetResult}
use Rattle.x12_judge.specs.declared.verdict.SetResult.TheVariants.{Rejected}
use Rattle.x12_judge.specs.Set.{takes, is_noted}
use Rattle.x12_judge.specs.Group.{FunctionalGroupVerdict}
use Rattle.x12_judge.specs.Verdict.{judged, group_is_acknowledgment, judgement_of}
use Rattle.x12_acks.specs.declared.answer.AnswerCode.{AnswerCode}
use Rattle.x12_acks.specs.declared.answer.AnswerCode.TheVariants.{PartiallyAccepted}
use Rattle.x12_acks.specs.Evidence.{result_of_code}
use Rattle.x12_acks.specs.Reply.{reply_of, MayAnswer}
use Rattle.x12_acks.specs.Answer.{Acknowledgment, of_group, FunctionalGroupAnswer, answers_of}
use Rattle.x12_acks.specs.Accepted.{AcceptedSet, sets_by_verdict}
use Rattle.x12_acks.specs.Accepted.{accepted_by_verdict}
use Rattle.x12_acks.specs.Laws.{written_answers}

-- What a reply accepts.

-- AK901: R, M, W and X refuse all transaction sets, whatever is listed; A, E and P leave each to
-- its AK501
abbrev pub refuses_all : AnswerCode → Bool
refuses_all PartiallyAccepted = false
refuses_all code = not (takes (result_of_code code))

-- the functional groups that are answered: all but those of acknowledgments (FA), each by its
-- place among all groups, from 1
abbrev pub answered_groups : Interchange → List (ℕ × FunctionalGroup)
answered_groups x =
    filter (λ g. not (group_is_acknowledgment (its_item g))) (enumerate_from 1 x.groups)

-- a transaction set of the interchange, by the place of its group and by its own
abbrev pub placed_set : Header → ℕ × FunctionalGroup → ℕ × TransactionSet → AcceptedSet
placed_set h g s = record {
  key = record { sender = h.sender; icn = h.icn; group = its_place g; set = its_place s };
  functional = (its_item g).functional;
  set = (its_item s).set;
  number = (its_item s).number;
  bytes = (its_item s).bytes;
}

-- the transaction sets of a group, by their places from 1
abbrev pub placed_sets : Header → ℕ × FunctionalGroup → List AcceptedSet
placed_sets h g = map (placed_set h g) (enumerate_from 1 (its_item g).sets)

-- the transaction sets of a group whose result by its 997 passes a test: the set that it lists in a
-- place answers the one that has this place in the group
unfoldable pub sets_by_answer :
    (SetResult → Bool) → Header → (ℕ × FunctionalGroup) × FunctionalGroupAnswer → List AcceptedSet
sets_by_answer test h p =
    if refuses_all p.1.code then []
    else map (λ s. s.0)
    (filter (λ s. test (result_of_code s.1.code)) (zip (placed_sets h p.0) p.1.sets))

-- an answer, if it is a 997
abbrev pub functional_answer : Acknowledgment → List FunctionalGroupAnswer
functional_answer (of_group a) = a ∷ []
functional_answer other = []

-- the transaction sets of an interchange whose result by its reply passes a test: the 997 in a place
-- answers the group that has this place among the answered groups
unfoldable pub sets_by_reply :
    (SetResult → Bool) → Header → Interchange → List Acknowledgment → List AcceptedSet
sets_by_reply test h x answers =
    flat_map (sets_by_answer test h)
    (zip (answered_groups x) (flat_map functional_answer answers))

-- those that its reply accepts, with or without errors noted
abbrev pub accepted_by_reply : Header → Interchange → List Acknowledgment → List AcceptedSet
accepted_by_reply h x answers = sets_by_reply takes h x answers

-- of these, those with errors noted
abbrev pub noted_by_reply : Header → Interchange → List Acknowledgment → List AcceptedSet
noted_by_reply h x answers = sets_by_reply is_noted h x answers

-- The law.

-- a 997 names this group by its code and its number (AK101, AK102), and lists each of its
-- transaction sets by its number (AK202), in order; or it refuses all, and lists none
pub record NamesGroup (g : FunctionalGroup) (a : FunctionalGroupAnswer) : Type 0 where
  pub functional : a.functional ≡ g.functional
  pub number : a.number ≡ g.number
  pub sets :
      ((refuses_all a.code ≡ true) × (a.sets ≡ []))
      ⊎ (map (λ s. s.number) a.sets ≡ map (λ s. s.number) g.sets)

-- bytes that are a reply to this interchange can be read, and accept these transaction sets of it
pub record AcceptsSets (h : Header) (x : Interchange) (reply : List ℕ)
    (sets : List AcceptedSet) : Type 0 where
  pub header : Header
  pub outline : Interchange
  pub is_header : header_of reply ≡ Ok header
  pub is_outline : outline_of header.delims reply ≡ Ok outline
  pub accepted : accepted_by_reply h x (answers_of header.delims outline) ≡ sets

-- The transaction sets that the reply to an interchange accepts, with or without errors noted, by its
-- segments and by its bytes, are those that the verdict accepts so: for each interchange that can be read, also where numbers
-- repeat and where groups of acknowledgments stand between others. Where the interchange isn't
-- refused, there is a 997 for each answered group, in their order, and it names this group.
pub record ReplyAcceptsByPlace : Type 0 where
  pub segments :
      (test : SetResult → Bool) → test Rejected ≡ false →
      (me : Party) (terms : JudgingTerms) (h : Header) (bytes : List ℕ)
      (x : Interchange) (at : Moment) (icn gcn : ℕ) →
      outline_of h.delims bytes ≡ Ok x →
      sets_by_reply test h x
      (written_answers (reply_of h (judgement_of me terms h bytes) me at icn gcn))
      ≡ sets_by_verdict test h.sender h.icn (judgement_of me terms h bytes).verdict
  pub named :
      (me : Party) (terms : JudgingTerms) (h : Header) (bytes : List ℕ)
      (x : Interchange) (at : Moment) (icn gcn : ℕ) (groups : List FunctionalGroupVerdict) →
      outline_of h.delims bytes ≡ Ok x →
      (judgement_of me terms h bytes).verdict ≡ judged groups →
      AllZip (λ g a. NamesGroup (its_item g) a) (answered_groups x)
      (flat_map functional_answer
      (written_answers (reply_of h (judgement_of me terms h bytes) me at icn gcn)))
  pub bytes :
      (me : Party) (terms : JudgingTerms) (h : Header) (bytes : List ℕ)
      (x : Interchange) (at : Moment) (icn gcn : ℕ) →
      header_of bytes ≡ Ok h → outline_of h.delims bytes ≡ Ok x →
      MayAnswer h me → icn ≤ 999999999 → gcn ≤ 999999999 →
      AcceptsSets h x (written (reply_of h (judgement_of me terms h bytes) me at icn gcn))
      (accepted_by_verdict h.sender h.icn (judgement_of me terms h bytes).verdict)
