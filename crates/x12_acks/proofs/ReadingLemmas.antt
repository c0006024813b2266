-- Reading a 997 in order: one more statement.
use Rattle.std.proofs.Common.{◌≡◌, ◌++◌, ◌∷◌, [], List, ℕ, Bool, true, false, option_map, unwrap_or, if◌then◌else◌, refl, append_assoc, append-nil}
use Rattle.std.specs.Prelude.{Option, Some, None}
use Rattle.x12_envelopes.specs.declared.shape.SetNo.{SetNo}
use Rattle.x12_envelopes.specs.Shape.{bytes_of_set_no}
use Rattle.x12_acks.specs.declared.answer.AnswerCode.{AnswerCode}
use Rattle.x12_acks.specs.declared.answer.Place.{Place as ReadPlace}
use Rattle.x12_acks.specs.declared.answer.Place.TheVariants.{Between, InSet}
use Rattle.x12_acks.specs.declared.statement.Statement.{Statement as ReadStatement}
use Rattle.x12_acks.specs.declared.statement.Statement.TheVariants.{St, Ak1, Ak2, Ak3, Ak4, Ak5, Ak9, Se, Other}
use Rattle.x12_acks.specs.Statement.{Statement, st, statement_view}
use Rattle.x12_acks.specs.Answer.{ReadingState, between, in_set, ListedSets, TransactionSetAnswer, with_listed_set, listed_from, is_se_alone, group_answer_of, of_group, unclear, answer_of}

-- what the code's place stands for
abbrev pub place_view : ReadPlace → ReadingState
place_view Between = between
place_view (InSet number noted) = in_set (bytes_of_set_no number) noted

-- sets in front of those that are still listed
abbrev pub with_sets : List TransactionSetAnswer → ListedSets → ListedSets
with_sets sets x = record x { sets = sets ++ x.sets }

abbrev pub in_front : List TransactionSetAnswer → Option ListedSets → Option ListedSets
in_front sets r = option_map (with_sets sets) r

pub in_front-one : (sets : List TransactionSetAnswer) (number : List ℕ) (code : AnswerCode) (r : Option ListedSets) → in_front sets (option_map (with_listed_set number code) r) ≡ in_front (sets ++ record { number = number; code = code } ∷ []) r
in_front-one sets number code None = refl
in_front-one sets number code (Some x) = simp append_assoc

-- AK2, AK9, AK3, AK4 and AK5, each where it may stand
pub ak2_step : {place : ReadPlace} {s : ReadStatement} {all more : List Statement} {number : SetNo} → place ≡ Between → s ≡ Ak2 number → all ≡ statement_view s ∷ more → listed_from (place_view place) all ≡ listed_from (in_set (bytes_of_set_no number) false) more
unfolding listed_from
ak2_step p e a = rw (a, e, p) refl

pub ak9_step : {place : ReadPlace} {s : ReadStatement} {all more : List Statement} {code : AnswerCode} → place ≡ Between → s ≡ Ak9 code → all ≡ statement_view s ∷ more → listed_from (place_view place) all ≡ (if is_se_alone more then Some (record { sets = []; code = code }) else None)
unfolding listed_from
ak9_step p e a = rw (a, e, p) refl

pub ak3_step : {place : ReadPlace} {s : ReadStatement} {all more : List Statement} {number : SetNo} {noted : Bool} → place ≡ InSet number noted → s ≡ Ak3 → all ≡ statement_view s ∷ more → listed_from (place_view place) all ≡ listed_from (in_set (bytes_of_set_no number) true) more
unfolding listed_from
ak3_step p e a = rw (a, e, p) refl

pub ak4_step : {place : ReadPlace} {s : ReadStatement} {all more : List Statement} {number : SetNo} {noted : Bool} → place ≡ InSet number noted → noted ≡ true → s ≡ Ak4 → all ≡ statement_view s ∷ more → listed_from (place_view place) all ≡ listed_from (place_view (InSet number noted)) more
unfolding listed_from
ak4_step p n e a = rw (a, e, p, n) refl

pub ak5_step : {place : ReadPlace} {s : ReadStatement} {all more : List Statement} {number : SetNo} {noted : Bool} {code : AnswerCode} → place ≡ InSet number noted → s ≡ Ak5 code → all ≡ statement_view s ∷ more → listed_from (place_view place) all ≡ option_map (with_listed_set (bytes_of_set_no number) code) (listed_from between more)
unfolding listed_from
ak5_step p e a = rw (a, e, p) refl

-- any other statement, and the end
between_none : (s : ReadStatement) (more : List Statement) → ((x : SetNo) → s ≡ Ak2 x → ⊥) → ((x : AnswerCode) → s ≡ Ak9 x → ⊥) → listed_from between (statement_view s ∷ more) ≡ None
unfolding listed_from
between_none St more n2 n9 = refl
between_none (Ak1 f n) more n2 n9 = refl
between_none (Ak2 x) more n2 n9 = absurd (n2 x refl)
between_none Ak3 more n2 n9 = refl
between_none Ak4 more n2 n9 = refl
between_none (Ak5 x) more n2 n9 = refl
between_none (Ak9 x) more n2 n9 = absurd (n9 x refl)
between_none Se more n2 n9 = refl
between_none Other more n2 n9 = refl

in_set_none : (number : List ℕ) (noted : Bool) (s : ReadStatement) (more : List Statement) → (s ≡ Ak3 → ⊥) → (s ≡ Ak4 → ⊥) → ((x : AnswerCode) → s ≡ Ak5 x → ⊥) → listed_from (in_set number noted) (statement_view s ∷ more) ≡ None
unfolding listed_from
in_set_none number noted St more n3 n4 n5 = refl
in_set_none number noted (Ak1 f n) more n3 n4 n5 = refl
in_set_none number noted (Ak2 x) more n3 n4 n5 = refl
in_set_none number noted Ak3 more n3 n4 n5 = absurd (n3 refl)
in_set_none number noted Ak4 more n3 n4 n5 = absurd (n4 refl)
in_set_none number noted (Ak5 x) more n3 n4 n5 = absurd (n5 x refl)
in_set_none number noted (Ak9 x) more n3 n4 n5 = refl
in_set_none number noted Se more n3 n4 n5 = refl
in_set_none number noted Other more n3 n4 n5 = refl

pub between_astray : {place : ReadPlace} {s : ReadStatement} {all more : List Statement} → place ≡ Between → ((x : SetNo) → s ≡ Ak2 x → ⊥) → ((x : AnswerCode) → s ≡ Ak9 x → ⊥) → all ≡ statement_view s ∷ more → listed_from (place_view place) all ≡ None
between_astray p n2 n9 a = rw (a, p) (between_none _ _ n2 n9)

pub in_set_astray : {place : ReadPlace} {s : ReadStatement} {all more : List Statement} {number : SetNo} {noted : Bool} → place ≡ InSet number noted → (s ≡ Ak3 → ⊥) → (s ≡ Ak4 → ⊥) → ((x : AnswerCode) → s ≡ Ak5 x → ⊥) → all ≡ statement_view s ∷ more → listed_from (place_view place) all ≡ None
in_set_astray p n3 n4 n5 a = rw (a, p) (in_set_none _ _ _ _ n3 n4 n5)

pub ak4_astray : {place : ReadPlace} {s : ReadStatement} {all more : List Statement} {number : SetNo} {noted : Bool} → place ≡ InSet number noted → noted ≡ false → s ≡ Ak4 → all ≡ statement_view s ∷ more → listed_from (place_view place) all ≡ None
unfolding listed_from
ak4_astray p n e a = rw (a, e, p, n) refl

pub ended : (place : ReadPlace) {all : List Statement} → all ≡ [] → listed_from (place_view place) all ≡ None
unfolding listed_from
ended Between a = rw a refl
ended (InSet number noted) a = rw a refl

-- what the rest lists decides what all lists
pub says_unclear : (sets : List TransactionSetAnswer) {rest whole : Option ListedSets} (functional : List ℕ) (number : ℕ) → in_front sets rest ≡ whole → rest ≡ None → unclear ≡ unwrap_or (option_map (group_answer_of functional number) whole) unclear
says_unclear sets functional number e none = rw (← e, none) refl

pub says_group : (sets : List TransactionSetAnswer) {rest whole : Option ListedSets} {code : AnswerCode} (functional : List ℕ) (number : ℕ) → in_front sets rest ≡ whole → rest ≡ Some (record { sets = []; code = code }) → of_group (record { functional = functional; number = number; code = code; sets = sets }) ≡ unwrap_or (option_map (group_answer_of functional number) whole) unclear
says_group sets functional number e some = rw (← e, some) (simp append-nil)

-- AK9: whether SE alone follows decides
pub says_ended : (sets : List TransactionSetAnswer) {rest whole : Option ListedSets} (code : AnswerCode) (alone : Bool) (functional : List ℕ) (number : ℕ) → in_front sets rest ≡ whole → rest ≡ (if alone then Some (record { sets = []; code = code }) else None) → (if alone then of_group (record { functional = functional; number = number; code = code; sets = sets }) else unclear) ≡ unwrap_or (option_map (group_answer_of functional number) whole) unclear
says_ended sets code true functional number e some = says_group sets functional number e some
says_ended sets code false functional number e none = says_unclear sets functional number e none

-- ST and AK1 in front, or anything else
pub head_read : {s t : ReadStatement} {all next more : List Statement} {functional : List ℕ} {number : ℕ} → all ≡ statement_view s ∷ next → next ≡ statement_view t ∷ more → s ≡ St → t ≡ Ak1 functional number → unwrap_or (option_map (group_answer_of functional number) (listed_from between more)) unclear ≡ answer_of all
unfolding answer_of
head_read a n e f = rw (a, n, e, f) refl

first_unclear : (s : ReadStatement) (more : List Statement) → (s ≡ St → ⊥) → unclear ≡ answer_of (statement_view s ∷ more)
unfolding answer_of
first_unclear St more other_one = absurd (other_one refl)
first_unclear (Ak1 f n) more other_one = refl
first_unclear (Ak2 x) more other_one = refl
first_unclear Ak3 more other_one = refl
first_unclear Ak4 more other_one = refl
first_unclear (Ak5 x) more other_one = refl
first_unclear (Ak9 x) more other_one = refl
first_unclear Se more other_one = refl
first_unclear Other more other_one = refl

second_unclear : (t : ReadStatement) (more : List Statement) → ((f : List ℕ) (n : ℕ) → t ≡ Ak1 f n → ⊥) → unclear ≡ answer_of (st ∷ statement_view t ∷ more)
unfolding answer_of
second_unclear St more other_one = refl
second_unclear (Ak1 f n) more other_one = absurd (other_one f n refl)
second_unclear (Ak2 x) more other_one = refl
second_unclear Ak3 more other_one = refl
second_unclear Ak4 more other_one = refl
second_unclear (Ak5 x) more other_one = refl
second_unclear (Ak9 x) more other_one = refl
second_unclear Se more other_one = refl
second_unclear Other more other_one = refl

pub first_astray : {s : ReadStatement} {all next : List Statement} → all ≡ statement_view s ∷ next → (s ≡ St → ⊥) → unclear ≡ answer_of all
first_astray a other_one = rw a (first_unclear _ _ other_one)

pub second_astray : {s t : ReadStatement} {all next more : List Statement} → all ≡ statement_view s ∷ next → next ≡ statement_view t ∷ more → s ≡ St → ((f : List ℕ) (n : ℕ) → t ≡ Ak1 f n → ⊥) → unclear ≡ answer_of all
second_astray a n e other_one = rw (a, n, e) (second_unclear _ _ other_one)

pub no_first : {all : List Statement} → all ≡ [] → unclear ≡ answer_of all
unfolding answer_of
no_first a = rw a refl

alone_unclear : (s : ReadStatement) → unclear ≡ answer_of (statement_view s ∷ [])
unfolding answer_of
alone_unclear St = refl
alone_unclear (Ak1 f m) = refl
alone_unclear (Ak2 x) = refl
alone_unclear Ak3 = refl
alone_unclear Ak4 = refl
alone_unclear (Ak5 x) = refl
alone_unclear (Ak9 x) = refl
alone_unclear Se = refl
alone_unclear Other = refl

pub no_second : (s : ReadStatement) {all next : List Statement} → all ≡ statement_view s ∷ next → next ≡ [] → unclear ≡ answer_of all
no_second s a n = rw (a, n) (alone_unclear s)
