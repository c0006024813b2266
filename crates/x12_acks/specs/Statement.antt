-- The segments of a 997 (functional acknowledgment), and what each states.
use Rattle.std.specs.Prelude.{ℕ, List, [], ◌∷◌, map, length, if◌then◌else◌, ◌==◌, Option, Some, unwrap_or, option_map, codes, bytes_eq}
use Rattle.x12_envelopes.specs.Row.{first_of_rows}
use Rattle.x12_envelopes.specs.Byte.{number_of_digits, text_has_length}
use Rattle.x12_envelopes.specs.Segment.{Segment, elements_of}
use Rattle.x12_envelopes.specs.Envelope.{element_at}
use Rattle.x12_envelopes.specs.Shape.{bytes_of_set_no}
use Rattle.x12_envelopes.specs.Cutting.{segments_left}
use Rattle.x12_acks.specs.declared.answer.AnswerCode.{AnswerCode}
use Rattle.x12_acks.specs.declared.answer.AnswerCode.TheVariants.{Accepted, ErrorsNoted, Rejected, MacFailed, AssuranceFailed, ContentUnreadable, PartiallyAccepted}
use Rattle.x12_acks.specs.declared.statement.Statement.{Statement as ReadStatement}
use Rattle.x12_acks.specs.declared.statement.Statement.TheVariants.{St, Ak1, Ak2, Ak3, Ak4, Ak5, Ak9, Se, Other}
use Rattle.x12_acks.specs.declared.statement.Statements.{Statements}

-- AK501: how a transaction set fares
unfoldable pub set_answer_code : List ℕ → Option AnswerCode
set_answer_code text = first_of_rows (
    (bytes_eq text (codes "A"), Accepted)
    ∷ (bytes_eq text (codes "E"), ErrorsNoted)
    ∷ (bytes_eq text (codes "R"), Rejected)
    ∷ (bytes_eq text (codes "M"), MacFailed)
    ∷ (bytes_eq text (codes "W"), AssuranceFailed)
    ∷ (bytes_eq text (codes "X"), ContentUnreadable)
    ∷ [])

-- AK901: how a functional group fares, a code of AK501 or P
unfoldable pub group_answer_code : List ℕ → Option AnswerCode
group_answer_code text =
    if bytes_eq text (codes "P") then Some PartiallyAccepted else set_answer_code text

-- A segment of a 997, and what it states. Its further elements aren't looked at.
pub data Statement : Type 0 where
  st : Statement
  ak1 : List ℕ → ℕ → Statement
  ak2 : List ℕ → Statement
  ak3 ak4 : Statement
  ak5 ak9 : AnswerCode → Statement
  se other : Statement

-- ST01 of a 997
unfoldable pub st_statement : List ℕ → Statement
st_statement set = if bytes_eq set (codes "997") then st else other

-- AK101, the group's functional identifier code, two bytes; AK102, its number
unfoldable pub ak1_statement : List ℕ → List ℕ → Statement
ak1_statement functional number =
    if length functional == 2 then
    unwrap_or (option_map (ak1 functional) (number_of_digits number)) other
    else other

-- AK202, the number of a transaction set, four to nine bytes
unfoldable pub ak2_statement : List ℕ → Statement
ak2_statement number = if text_has_length 4 9 number then ak2 number else other

-- AK501, how that transaction set fares
unfoldable pub ak5_statement : List ℕ → Statement
ak5_statement code = unwrap_or (option_map ak5 (set_answer_code code)) other

-- AK901, how the group fares
unfoldable pub ak9_statement : List ℕ → Statement
ak9_statement code = unwrap_or (option_map ak9 (group_answer_code code)) other

-- what a segment with this identifier and these first two elements states
unfoldable pub statement_by : List ℕ → List ℕ → List ℕ → Statement
statement_by identifier first second =
    unwrap_or (first_of_rows (
    (bytes_eq identifier (codes "ST"), st_statement first)
    ∷ (bytes_eq identifier (codes "AK1"), ak1_statement first second)
    ∷ (bytes_eq identifier (codes "AK2"), ak2_statement second)
    ∷ (bytes_eq identifier (codes "AK3"), ak3)
    ∷ (bytes_eq identifier (codes "AK4"), ak4)
    ∷ (bytes_eq identifier (codes "AK5"), ak5_statement first)
    ∷ (bytes_eq identifier (codes "AK9"), ak9_statement first)
    ∷ (bytes_eq identifier (codes "SE"), se)
    ∷ [])) other

-- what a segment states in a 997
unfoldable pub statement_of : Segment → Statement
statement_of s = statement_by (element_at s 0) (element_at s 1) (element_at s 2)

-- what the code's statements stand for
abbrev pub statement_view : ReadStatement → Statement
statement_view St = st
statement_view (Ak1 functional number) = ak1 functional number
statement_view (Ak2 number) = ak2 (bytes_of_set_no number)
statement_view Ak3 = ak3
statement_view Ak4 = ak4
statement_view (Ak5 code) = ak5 code
statement_view (Ak9 code) = ak9 code
statement_view Se = se
statement_view Other = other

-- what the segments that are still to come state
abbrev pub statements_left : Statements → List Statement
statements_left it =
    map (λ s. statement_of (elements_of s.delims s.bytes)) (segments_left it.segments)
