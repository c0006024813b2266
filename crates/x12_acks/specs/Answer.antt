-- What an interchange that was read answers (X12.5, TA1; the 997, functional acknowledgment): which
-- interchanges, functional groups and transaction sets it acknowledges, and how each fares.
use Rattle.std.specs.Prelude.{ℕ, Bool, true, false, List, [], ◌∷◌, ◌++◌, map, replicate, flat_map, Option, Some, None, if◌then◌else◌, unwrap_or, option_map}
use Rattle.x12_envelopes.specs.declared.delimiters.Delims.{Delims}
use Rattle.x12_envelopes.specs.declared.shape.Ta1.{Ta1}
use Rattle.x12_envelopes.specs.declared.shape.AcknowledgmentCode.{AcknowledgmentCode}
use Rattle.x12_envelopes.specs.declared.shape.SetNo.{SetNo}
use Rattle.x12_envelopes.specs.Segment.{elements_of}
use Rattle.x12_envelopes.specs.Shape.{Interchange, FunctionalGroup, TransactionSet, bytes_of_set_no}
use Rattle.x12_judge.specs.Verdict.{group_is_acknowledgment}
use Rattle.x12_acks.specs.Statement.{Statement, st, ak1, ak2, ak3, ak4, ak5, ak9, se, statement_of}
use Rattle.x12_acks.specs.declared.answer.AnswerCode.{AnswerCode}
use Rattle.x12_acks.specs.declared.answer.Answer.{Answer}
use Rattle.x12_acks.specs.declared.answer.Answer.TheVariants.{Interchange as InterchangeAnswer, Group, Unclear}

-- The grammar of a 997.

-- an answered transaction set: its number; for each of its segment notes (AK3), how many element
-- notes (AK4) follow; and how it fares
pub record AnsweredSet : Type 0 where
  pub number : List ℕ
  pub notes : List ℕ
  pub code : AnswerCode

-- a functional acknowledgment: the group that it answers, the answered transaction sets, and how
-- the group fares
pub record FunctionalAcknowledgment : Type 0 where
  pub functional : List ℕ
  pub number : ℕ
  pub sets : List AnsweredSet
  pub code : AnswerCode

-- AK3, then that many AK4s
abbrev pub note_statements : ℕ → List Statement
note_statements elements = ak3 ∷ replicate elements ak4

-- AK2, the notes, AK5
abbrev pub answered_set_statements : AnsweredSet → List Statement
answered_set_statements s = ak2 s.number ∷ flat_map note_statements s.notes ++ ak5 s.code ∷ []

-- ST, AK1, the answered transaction sets, AK9, SE
abbrev pub acknowledgment_statements : FunctionalAcknowledgment → List Statement
acknowledgment_statements a =
    st ∷ ak1 a.functional a.number ∷ flat_map answered_set_statements a.sets ++ ak9 a.code ∷ se ∷ []

-- What is answered.

-- how a transaction set fares, by its number (ST02)
pub record TransactionSetAnswer : Type 0 where
  pub number : List ℕ
  pub code : AnswerCode

-- how a functional group fares, by GS01 and its number (GS06), and the listed transaction sets
pub record FunctionalGroupAnswer : Type 0 where
  pub functional : List ℕ
  pub number : ℕ
  pub code : AnswerCode
  pub sets : List TransactionSetAnswer

-- an answer: to an interchange (its number, TA104 and TA105), to a functional group, or a
-- transaction set in a group of acknowledgments that isn't a 997
pub data Acknowledgment : Type 0 where
  of_interchange : ℕ → AcknowledgmentCode → ℕ → Acknowledgment
  of_group : FunctionalGroupAnswer → Acknowledgment
  unclear : Acknowledgment

-- what an answered transaction set says, and a functional acknowledgment
abbrev pub said_by_set : AnsweredSet → TransactionSetAnswer
said_by_set s = record { number = s.number; code = s.code }

abbrev pub said_by : FunctionalAcknowledgment → FunctionalGroupAnswer
said_by a =
    record {
      functional = a.functional;
      number = a.number;
      code = a.code;
      sets = map said_by_set a.sets;
    }

-- The same by one reading in order; that it is the grammar's is the law GrammarIsRead.

-- where the reading stands: behind AK1 or AK5; or in an answered transaction set, behind its AK2
-- with its number, and whether behind an AK3
pub data ReadingState : Type 0 where
  between : ReadingState
  in_set : List ℕ → Bool → ReadingState

-- the transaction sets that are still listed, and AK901
pub record ListedSets : Type 0 where
  pub sets : List TransactionSetAnswer
  pub code : AnswerCode

abbrev pub with_listed_set : List ℕ → AnswerCode → ListedSets → ListedSets
with_listed_set number code r = record r { sets = record { number = number; code = code } ∷ r.sets }

-- SE alone
abbrev pub is_se_alone : List Statement → Bool
is_se_alone (se ∷ []) = true
is_se_alone statements = false

-- what the statements from this place on list, if they end as a 997 does
unfoldable pub listed_from : ReadingState → List Statement → Option ListedSets
listed_from between (ak2 number ∷ more) = listed_from (in_set number false) more
listed_from between (ak9 code ∷ more) =
    if is_se_alone more then Some (record { sets = []; code = code }) else None
listed_from (in_set number noted) (ak3 ∷ more) = listed_from (in_set number true) more
listed_from (in_set number true) (ak4 ∷ more) = listed_from (in_set number true) more
listed_from (in_set number noted) (ak5 code ∷ more) =
    option_map (with_listed_set number code) (listed_from between more)
listed_from place statements = None

abbrev pub group_answer_of : List ℕ → ℕ → ListedSets → Acknowledgment
group_answer_of functional number listed =
    of_group (record {
      functional = functional;
      number = number;
      code = listed.code;
      sets = listed.sets;
    })

-- what a transaction set in a group of acknowledgments answers, by what its segments state
unfoldable pub answer_of : List Statement → Acknowledgment
answer_of (st ∷ ak1 functional number ∷ more) =
    unwrap_or (option_map (group_answer_of functional number) (listed_from between more)) unclear
answer_of statements = unclear

-- the answer of a transaction set that was read
unfoldable pub set_answer_of : Delims → TransactionSet → Acknowledgment
set_answer_of d s = answer_of (map (λ part. statement_of (elements_of d part)) s.parts)

-- the answers of a functional group: of each transaction set, where it is one of acknowledgments
unfoldable pub group_answers_of : Delims → FunctionalGroup → List Acknowledgment
group_answers_of d g = if group_is_acknowledgment g then map (set_answer_of d) g.sets else []

-- TA1: the number, the code and the note
abbrev pub ta1_answer : Ta1 → Acknowledgment
ta1_answer t = of_interchange t.icn t.code t.note

-- what an interchange answers: its TA1s, then its groups of acknowledgments
unfoldable pub answers_of : Delims → Interchange → List Acknowledgment
answers_of d x = map ta1_answer x.tas ++ flat_map (group_answers_of d) x.groups

-- what the code's answers stand for
abbrev pub set_answer_view : SetNo × AnswerCode → TransactionSetAnswer
set_answer_view a = record { number = bytes_of_set_no a.0; code = a.1 }

abbrev pub answer_view : Answer → Acknowledgment
answer_view (InterchangeAnswer icn code note) = of_interchange icn code note
answer_view (Group functional number code sets) =
    of_group (record {
      functional = functional;
      number = number;
      code = code;
      sets = map set_answer_view sets.items;
    })
answer_view Unclear = unclear
