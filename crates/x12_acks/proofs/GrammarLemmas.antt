-- The 997's grammar, and its reading in order.
use Rattle.std.proofs.Common.{◌≡◌, ◌++◌, ◌∷◌, [], List, ℕ, zero, suc, true, false, map, option_map, flat_map, replicate, refl, ap, append_assoc, sym, ◌∙◌, ◌⊎◌, inl, inr}
use Rattle.std.specs.Prelude.{Some, None}
use Rattle.x12_acks.specs.declared.answer.AnswerCode.{AnswerCode}
use Rattle.x12_acks.specs.Statement.{Statement, st, ak1, ak2, ak3, ak4, ak5, ak9, se, other}
use Rattle.x12_acks.specs.Answer.{ReadingState, between, in_set, AnsweredSet, FunctionalAcknowledgment, note_statements, answered_set_statements, acknowledgment_statements, said_by_set, said_by, with_listed_set, listed_from, of_group, unclear, answer_of}
use Rattle.x12_acks.specs.Laws.{GrammarIsRead}

-- the answered transaction sets, AK9, SE
abbrev pub rest_statements : List AnsweredSet → AnswerCode → List Statement
rest_statements sets code = flat_map answered_set_statements sets ++ ak9 code ∷ se ∷ []

listed_noted : (number : List ℕ) (more : ℕ) (notes : List ℕ) (code : AnswerCode) (rest : List Statement) → listed_from (in_set number true) (replicate more ak4 ++ (flat_map note_statements notes ++ ak5 code ∷ rest)) ≡ option_map (with_listed_set number code) (listed_from between rest)
unfolding listed_from
listed_noted number zero [] code rest = refl
listed_noted number zero (n ∷ notes) code rest = rw (append_assoc (replicate n ak4) (flat_map note_statements notes) (ak5 code ∷ rest)) (listed_noted number n notes code rest)
listed_noted number (suc more) notes code rest = listed_noted number more notes code rest

pub listed_set : (number : List ℕ) (notes : List ℕ) (code : AnswerCode) (rest : List Statement) → listed_from (in_set number false) (flat_map note_statements notes ++ ak5 code ∷ rest) ≡ option_map (with_listed_set number code) (listed_from between rest)
unfolding listed_from
listed_set number [] code rest = refl
listed_set number (n ∷ notes) code rest = rw (append_assoc (replicate n ak4) (flat_map note_statements notes) (ak5 code ∷ rest)) (listed_noted number n notes code rest)

pub listed_rest : (sets : List AnsweredSet) (code : AnswerCode) → listed_from between (rest_statements sets code) ≡ Some (record { sets = map said_by_set sets; code = code })
unfolding listed_from
listed_rest [] code = refl
listed_rest (s ∷ sets) code =
    ap (listed_from (in_set s.number false)) (append_assoc (flat_map note_statements s.notes ++ ak5 s.code ∷ []) (flat_map answered_set_statements sets) (ak9 code ∷ se ∷ []) ∙ append_assoc (flat_map note_statements s.notes) (ak5 s.code ∷ []) (rest_statements sets code))
    ∙ (listed_set s.number s.notes s.code (rest_statements sets code)
    ∙ ap (option_map (with_listed_set s.number s.code)) (listed_rest sets code))

pub only : (a : FunctionalAcknowledgment) → answer_of (acknowledgment_statements a) ≡ of_group (said_by a)
unfolding answer_of
only a = rw (listed_rest a.sets a.code) refl

-- the statements from a place on end as a 997 does
abbrev pub Behind : ReadingState → List Statement → Type 0
Behind between ss = (sets : List AnsweredSet) × (code : AnswerCode) × (ss ≡ rest_statements sets code)
Behind (in_set number false) ss = (notes : List ℕ) × (code : AnswerCode) × (sets : List AnsweredSet) × (last : AnswerCode) × (ss ≡ flat_map note_statements notes ++ ak5 code ∷ rest_statements sets last)
Behind (in_set number true) ss = (more : ℕ) × (notes : List ℕ) × (code : AnswerCode) × (sets : List AnsweredSet) × (last : AnswerCode) × (ss ≡ replicate more ak4 ++ (flat_map note_statements notes ++ ak5 code ∷ rest_statements sets last))

abbrev pub Ends : ReadingState → List Statement → Type 0
Ends place ss = (listed_from place ss ≡ None) ⊎ Behind place ss

-- a set in front of the rest
set_in_front : (number : List ℕ) (ss : List Statement) → Ends (in_set number false) ss → Ends between (ak2 number ∷ ss)
unfolding listed_from
set_in_front number ss (inl e) = inl e
set_in_front number ss (inr b) =
    inr (
      record { number = number; notes = b.0; code = b.1 } ∷ b.2,
      b.3,
      ap (λ l. ak2 number ∷ l) (b.4 ∙ sym (append_assoc (flat_map note_statements b.0) (ak5 b.1 ∷ []) (rest_statements b.2 b.3)) ∙ sym (append_assoc (flat_map note_statements b.0 ++ ak5 b.1 ∷ []) (flat_map answered_set_statements b.2) (ak9 b.3 ∷ se ∷ []))),
    )

group_code_in_front : (code : AnswerCode) (ss : List Statement) → Ends between (ak9 code ∷ ss)
unfolding listed_from
group_code_in_front code [] = inl refl
group_code_in_front code (st ∷ ss) = inl refl
group_code_in_front code (ak1 f n ∷ ss) = inl refl
group_code_in_front code (ak2 n ∷ ss) = inl refl
group_code_in_front code (ak3 ∷ ss) = inl refl
group_code_in_front code (ak4 ∷ ss) = inl refl
group_code_in_front code (ak5 c ∷ ss) = inl refl
group_code_in_front code (ak9 c ∷ ss) = inl refl
group_code_in_front code (se ∷ []) = inr ([], code, refl)
group_code_in_front code (se ∷ s ∷ ss) = inl refl
group_code_in_front code (other ∷ ss) = inl refl

note_in_front : (number : List ℕ) (ss : List Statement) → Ends (in_set number true) ss → Ends (in_set number false) (ak3 ∷ ss)
unfolding listed_from
note_in_front number ss (inl e) = inl e
note_in_front number ss (inr b) =
    inr (
      b.0 ∷ b.1,
      b.2,
      b.3,
      b.4,
      ap (λ l. ak3 ∷ l) (b.5 ∙ sym (append_assoc (replicate b.0 ak4) (flat_map note_statements b.1) (ak5 b.2 ∷ rest_statements b.3 b.4))),
    )

next_note_in_front : (number : List ℕ) (ss : List Statement) → Ends (in_set number true) ss → Ends (in_set number true) (ak3 ∷ ss)
unfolding listed_from
next_note_in_front number ss (inl e) = inl e
next_note_in_front number ss (inr b) =
    inr (
      0,
      b.0 ∷ b.1,
      b.2,
      b.3,
      b.4,
      ap (λ l. ak3 ∷ l) (b.5 ∙ sym (append_assoc (replicate b.0 ak4) (flat_map note_statements b.1) (ak5 b.2 ∷ rest_statements b.3 b.4))),
    )

element_in_front : (number : List ℕ) (ss : List Statement) → Ends (in_set number true) ss → Ends (in_set number true) (ak4 ∷ ss)
unfolding listed_from
element_in_front number ss (inl e) = inl e
element_in_front number ss (inr b) = inr (suc b.0, b.1, b.2, b.3, b.4, ap (λ l. ak4 ∷ l) b.5)

set_code_in_front : (number : List ℕ) (code : AnswerCode) (ss : List Statement) → Ends between ss → Ends (in_set number false) (ak5 code ∷ ss)
unfolding listed_from
set_code_in_front number code ss (inl e) = inl (rw e refl)
set_code_in_front number code ss (inr b) = inr ([], code, b.0, b.1, ap (λ l. ak5 code ∷ l) b.2)

noted_set_code_in_front : (number : List ℕ) (code : AnswerCode) (ss : List Statement) → Ends between ss → Ends (in_set number true) (ak5 code ∷ ss)
unfolding listed_from
noted_set_code_in_front number code ss (inl e) = inl (rw e refl)
noted_set_code_in_front number code ss (inr b) = inr (0, [], code, b.0, b.1, ap (λ l. ak5 code ∷ l) b.2)

found_from : (place : ReadingState) (ss : List Statement) → Ends place ss
unfolding listed_from
found_from between [] = inl refl
found_from between (st ∷ ss) = inl refl
found_from between (ak1 f n ∷ ss) = inl refl
found_from between (ak2 n ∷ ss) = set_in_front n ss (found_from (in_set n false) ss)
found_from between (ak3 ∷ ss) = inl refl
found_from between (ak4 ∷ ss) = inl refl
found_from between (ak5 c ∷ ss) = inl refl
found_from between (ak9 c ∷ ss) = group_code_in_front c ss
found_from between (se ∷ ss) = inl refl
found_from between (other ∷ ss) = inl refl
found_from (in_set n false) [] = inl refl
found_from (in_set n false) (st ∷ ss) = inl refl
found_from (in_set n false) (ak1 f m ∷ ss) = inl refl
found_from (in_set n false) (ak2 m ∷ ss) = inl refl
found_from (in_set n false) (ak3 ∷ ss) = note_in_front n ss (found_from (in_set n true) ss)
found_from (in_set n false) (ak4 ∷ ss) = inl refl
found_from (in_set n false) (ak5 c ∷ ss) = set_code_in_front n c ss (found_from between ss)
found_from (in_set n false) (ak9 c ∷ ss) = inl refl
found_from (in_set n false) (se ∷ ss) = inl refl
found_from (in_set n false) (other ∷ ss) = inl refl
found_from (in_set n true) [] = inl refl
found_from (in_set n true) (st ∷ ss) = inl refl
found_from (in_set n true) (ak1 f m ∷ ss) = inl refl
found_from (in_set n true) (ak2 m ∷ ss) = inl refl
found_from (in_set n true) (ak3 ∷ ss) = next_note_in_front n ss (found_from (in_set n true) ss)
found_from (in_set n true) (ak4 ∷ ss) = element_in_front n ss (found_from (in_set n true) ss)
found_from (in_set n true) (ak5 c ∷ ss) = noted_set_code_in_front n c ss (found_from between ss)
found_from (in_set n true) (ak9 c ∷ ss) = inl refl
found_from (in_set n true) (se ∷ ss) = inl refl
found_from (in_set n true) (other ∷ ss) = inl refl

abbrev pub IsAnswered : List Statement → Type 0
IsAnswered ss = (answer_of ss ≡ unclear) ⊎ ((a : FunctionalAcknowledgment) × (ss ≡ acknowledgment_statements a))

behind_head : (functional : List ℕ) (number : ℕ) (ss : List Statement) → Ends between ss → IsAnswered (st ∷ ak1 functional number ∷ ss)
unfolding answer_of
behind_head functional number ss (inl e) = inl (rw e refl)
behind_head functional number ss (inr b) =
    inr (record { functional = functional; number = number; sets = b.0; code = b.1 }, ap (λ l. st ∷ ak1 functional number ∷ l) b.2)

pub found : (ss : List Statement) → IsAnswered ss
unfolding answer_of
found [] = inl refl
found (st ∷ []) = inl refl
found (st ∷ st ∷ ss) = inl refl
found (st ∷ ak1 f n ∷ ss) = behind_head f n ss (found_from between ss)
found (st ∷ ak2 n ∷ ss) = inl refl
found (st ∷ ak3 ∷ ss) = inl refl
found (st ∷ ak4 ∷ ss) = inl refl
found (st ∷ ak5 c ∷ ss) = inl refl
found (st ∷ ak9 c ∷ ss) = inl refl
found (st ∷ se ∷ ss) = inl refl
found (st ∷ other ∷ ss) = inl refl
found (ak1 f n ∷ ss) = inl refl
found (ak2 n ∷ ss) = inl refl
found (ak3 ∷ ss) = inl refl
found (ak4 ∷ ss) = inl refl
found (ak5 c ∷ ss) = inl refl
found (ak9 c ∷ ss) = inl refl
found (se ∷ ss) = inl refl
found (other ∷ ss) = inl refl

pub is_read : GrammarIsRead
is_read = record { only = only; found = found }
