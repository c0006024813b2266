-- What the segments of a reply state.
use Rattle.std.proofs.Common.{◌≡◌, ◌++◌, ◌∷◌, [], List, ℕ, Bool, true, false, map, option_map, unwrap_or, flat_map, ◌==◌, ◌&&◌, length, codes, refl, ap, append_assoc, ◌∙◌, is_some}
use Rattle.std.proofs.lemmas.List.{map-append}
use Rattle.std.specs.Prelude.{Some}
use Rattle.std.specs.List.{AllByRecursion}
use Rattle.x12_envelopes.specs.Row.{first_of_rows}
use Rattle.x12_envelopes.specs.Byte.{number_of_digits, zero_padded_number, text_has_length}
use Rattle.x12_envelopes.specs.Segment.{Segment}
use Rattle.x12_envelopes.specs.Envelope.{set_segments}
use Rattle.x12_judge.specs.declared.verdict.SetResult.{SetResult}
use Rattle.x12_judge.specs.declared.verdict.SetResult.TheVariants as result
use Rattle.x12_judge.specs.Set.{TransactionSetVerdict, ReportedNote, segment, element}
use Rattle.x12_judge.specs.Group.{FunctionalGroupVerdict}
use Rattle.x12_acks.specs.declared.answer.AnswerCode.{AnswerCode}
use Rattle.x12_acks.specs.declared.answer.AnswerCode.TheVariants.{Accepted, ErrorsNoted, Rejected, PartiallyAccepted}
use Rattle.x12_acks.specs.Reply.{note_segment, ak5_segment, set_answer, code_of_group, ak9_segment, group_answer, code_of_result, some_are_noted}
use Rattle.x12_acks.specs.Statement.{Statement, st, ak1, ak2, ak3, ak4, ak5, ak9, se, statement_of, statement_by, st_statement, ak1_statement, ak2_statement, ak5_statement, ak9_statement, set_answer_code, group_answer_code}
use Rattle.x12_acks.specs.Answer.{between, in_set, TransactionSetAnswer, FunctionalGroupAnswer, with_listed_set, listed_from, group_answer_of, of_group, answer_of, unclear}

-- AK501 and AK901 as they are written
abbrev pub code_written : SetResult → AnswerCode
code_written result.Accepted = Accepted
code_written result.Noted = ErrorsNoted
code_written result.Rejected = Rejected

abbrev pub set_code_of : TransactionSetVerdict → AnswerCode
set_code_of v = code_written v.result

-- AK901, where the group is refused, where all its sets are accepted, in some of them errors were noted, or none is
-- accepted
abbrev pub group_code_by : Bool → Bool → Bool → Bool → AnswerCode
group_code_by refused all noted none =
    unwrap_or (first_of_rows ((refused, Rejected) ∷ (all && noted, ErrorsNoted) ∷ (all, Accepted) ∷ (none, Rejected) ∷ [])) PartiallyAccepted

abbrev pub group_code_of : FunctionalGroupVerdict → AnswerCode
group_code_of v =
    group_code_by (is_some v.refused) (v.accepted == length v.sets) (some_are_noted v.sets) (v.accepted == 0)

abbrev pub told_set : TransactionSetVerdict → TransactionSetAnswer
told_set v = record { number = v.number; code = set_code_of v }

abbrev pub told_group : ℕ → FunctionalGroupVerdict → FunctionalGroupAnswer
told_group number v = record { functional = v.functional; number = number; code = group_code_of v; sets = map told_set v.sets }

states_st : (number : List ℕ) → statement_of (codes "ST" ∷ codes "997" ∷ number ∷ []) ≡ st
unfolding statement_of statement_by st_statement
states_st number = refl

states_ak1 : (functional text : List ℕ) (n : ℕ) → length functional ≡ 2 → number_of_digits text ≡ Some n → statement_of (codes "AK1" ∷ functional ∷ text ∷ []) ≡ ak1 functional n
unfolding statement_of statement_by ak1_statement
states_ak1 functional text n two is = rw (two, is) refl

states_ak2 : (set number : List ℕ) → text_has_length 4 9 number ≡ true → statement_of (codes "AK2" ∷ set ∷ number ∷ []) ≡ ak2 number
unfolding statement_of statement_by ak2_statement
states_ak2 set number fits = rw fits refl

abbrev pub note_statement : ReportedNote → Statement
note_statement (segment name position code) = ak3
note_statement (element n) = ak4

states_note : (n : ReportedNote) → statement_of (note_segment n) ≡ note_statement n
unfolding statement_of statement_by
states_note (segment name position code) = refl
states_note (element n) = refl

ak5_by : (r : SetResult) (more : Segment) → statement_of (codes "AK5" ∷ code_of_result r ∷ more) ≡ ak5 (code_written r)
unfolding statement_of statement_by ak5_statement set_answer_code
ak5_by result.Accepted more = refl
ak5_by result.Noted more = refl
ak5_by result.Rejected more = refl

states_ak5 : (v : TransactionSetVerdict) → statement_of (ak5_segment v) ≡ ak5 (set_code_of v)
states_ak5 v = ak5_by v.result _

ak9_by : (refused all noted none : Bool) → ak9_statement (unwrap_or (first_of_rows ((refused, codes "R") ∷ (all && noted, codes "E") ∷ (all, codes "A") ∷ (none, codes "R") ∷ [])) (codes "P")) ≡ ak9 (group_code_by refused all noted none)
unfolding ak9_statement set_answer_code group_answer_code
ak9_by true all noted none = refl
ak9_by false true true none = refl
ak9_by false true false none = refl
ak9_by false false noted true = refl
ak9_by false false noted false = refl

states_ak9 : (v : FunctionalGroupVerdict) → statement_of (ak9_segment v) ≡ ak9 (group_code_of v)
unfolding statement_of statement_by ak9_statement set_answer_code group_answer_code code_of_group
states_ak9 v = ak9_by (is_some v.refused) (v.accepted == length v.sets) (some_are_noted v.sets) (v.accepted == 0)

states_se : (count number : List ℕ) → statement_of (codes "SE" ∷ count ∷ number ∷ []) ≡ se
unfolding statement_of statement_by
states_se count number = refl

-- notes that begin with a segment's
abbrev pub IsNoted : List ReportedNote → Type 0
IsNoted [] = Unit {0}
IsNoted (segment name position code ∷ more) = Unit {0}
IsNoted (element n ∷ more) = ⊥

note_passed : (number : List ℕ) (n : ReportedNote) (rest : List Statement) → listed_from (in_set number true) (note_statement n ∷ rest) ≡ listed_from (in_set number true) rest
unfolding listed_from
note_passed number (segment name position code) rest = refl
note_passed number (element n) rest = refl

notes_passed : (number : List ℕ) (notes : List ReportedNote) (rest : List Statement) → listed_from (in_set number true) (map statement_of (map note_segment notes) ++ rest) ≡ listed_from (in_set number true) rest
notes_passed number [] rest = refl
notes_passed number (n ∷ notes) rest =
    rw (states_note n) (note_passed number n (map statement_of (map note_segment notes) ++ rest) ∙ notes_passed number notes rest)

code_noted : (number : List ℕ) (code : AnswerCode) (rest : List Statement) → listed_from (in_set number true) (ak5 code ∷ rest) ≡ option_map (with_listed_set number code) (listed_from between rest)
unfolding listed_from
code_noted number code rest = refl

first_note_passed : (number name : List ℕ) (position : ℕ) (code : _) (rest : List Statement) → listed_from (in_set number false) (statement_of (note_segment (segment name position code)) ∷ rest) ≡ listed_from (in_set number true) rest
unfolding listed_from
first_note_passed number name position code rest = rw (states_note (segment name position code)) refl

listed_answer : (number : List ℕ) (notes : List ReportedNote) (code : AnswerCode) (rest : List Statement) → IsNoted notes → listed_from (in_set number false) (map statement_of (map note_segment notes) ++ ak5 code ∷ rest) ≡ option_map (with_listed_set number code) (listed_from between rest)
unfolding listed_from
listed_answer number [] code rest is = refl
listed_answer number (segment name position c ∷ notes) code rest is =
    first_note_passed number name position c (map statement_of (map note_segment notes) ++ ak5 code ∷ rest)
    ∙ (notes_passed number notes (ak5 code ∷ rest) ∙ code_noted number code rest)
listed_answer number (element n ∷ notes) code rest is = absurd is

-- what a verdict of a transaction set has, so that its answer is read
pub record IsTold (v : TransactionSetVerdict) : Type 0 where
  pub number : text_has_length 4 9 v.number ≡ true
  pub notes : IsNoted v.notes

set_stated : (v : TransactionSetVerdict) (rest : List Statement) → IsTold v → listed_from between (map statement_of (set_answer v) ++ rest) ≡ option_map (with_listed_set v.number (set_code_of v)) (listed_from between rest)
unfolding set_answer listed_from
set_stated v rest is =
    rw (states_ak2 v.set v.number is.number, map-append statement_of (map note_segment v.notes) (ak5_segment v ∷ []), append_assoc (map statement_of (map note_segment v.notes)) (statement_of (ak5_segment v) ∷ []) rest, states_ak5 v)
    (listed_answer v.number v.notes (set_code_of v) rest is.notes)

end_stated : (code : AnswerCode) → listed_from between (ak9 code ∷ se ∷ []) ≡ Some (record { sets = []; code = code })
unfolding listed_from
end_stated code = refl

sets_stated : (vs : List TransactionSetVerdict) (code : AnswerCode) → AllByRecursion IsTold vs → listed_from between (map statement_of (flat_map set_answer vs) ++ ak9 code ∷ se ∷ []) ≡ Some (record { sets = map told_set vs; code = code })
sets_stated [] code is = end_stated code
sets_stated (v ∷ vs) code is =
    rw (map-append statement_of (set_answer v) (flat_map set_answer vs), append_assoc (map statement_of (set_answer v)) (map statement_of (flat_map set_answer vs)) (ak9 code ∷ se ∷ []))
    (set_stated v (map statement_of (flat_map set_answer vs) ++ ak9 code ∷ se ∷ []) is.0 ∙ ap (option_map (with_listed_set v.number (set_code_of v))) (sets_stated vs code is.1))

-- what a verdict of a functional group has, so that its 997 is read
pub record IsToldGroup (n : ℕ) (v : FunctionalGroupVerdict) : Type 0 where
  pub functional : length v.functional ≡ 2
  pub number : number_of_digits v.number_text ≡ Some n
  pub sets : AllByRecursion IsTold v.sets

group_head : (functional : List ℕ) (n : ℕ) (rest : List Statement) → answer_of (st ∷ ak1 functional n ∷ rest) ≡ unwrap_or (option_map (group_answer_of functional n) (listed_from between rest)) unclear
unfolding answer_of
group_head functional n rest = refl

ends_stated : (segments : List Segment) (v : FunctionalGroupVerdict) (count number : List ℕ) → map statement_of ((segments ++ ak9_segment v ∷ []) ++ (codes "SE" ∷ count ∷ number ∷ []) ∷ []) ≡ map statement_of segments ++ ak9 (group_code_of v) ∷ se ∷ []
ends_stated segments v count number =
    rw (append_assoc segments (ak9_segment v ∷ []) ((codes "SE" ∷ count ∷ number ∷ []) ∷ []), map-append statement_of segments (ak9_segment v ∷ (codes "SE" ∷ count ∷ number ∷ []) ∷ []), states_ak9 v, states_se count number) refl

pub group_stated : (place n : ℕ) (v : FunctionalGroupVerdict) → IsToldGroup n v → answer_of (map statement_of (set_segments (group_answer place v))) ≡ of_group (told_group n v)
unfolding group_answer
group_stated place n v is =
    rw (states_st (zero_padded_number 4 place), states_ak1 v.functional v.number_text n is.functional is.number, ends_stated (flat_map set_answer v.sets) v _ _)
    (group_head v.functional n (map statement_of (flat_map set_answer v.sets) ++ ak9 (group_code_of v) ∷ se ∷ [])
    ∙ rw (sets_stated v.sets (group_code_of v) is.sets) refl)
