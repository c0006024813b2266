-- What an answer states of the transaction sets of a submitted functional group: the evidence that
-- it is, each piece with the numbers that it names.
use Rattle.std.specs.Prelude.{ℕ, not, List, map, find, filter, ◌++◌, Bool, Option, Some, option_map, bytes_eq}
use Rattle.std.specs.List.{list_any, enumerate_from}
use Rattle.x12_envelopes.specs.declared.shape.SetNo.{SetNo}
use Rattle.x12_envelopes.specs.Shape.{bytes_of_set_no}
use Rattle.x12_acks.specs.declared.answer.AnswerCode.{AnswerCode}
use Rattle.x12_acks.specs.declared.answer.AnswerCode.TheVariants.{Accepted as CodeAccepted, ErrorsNoted, PartiallyAccepted}
use Rattle.x12_acks.specs.Evidence.{Evidence}
use Rattle.x12_outbound.specs.Piece.{set_statement_view}
use Rattle.x12_outbound.specs.Matching.{stated}
use Rattle.x12_outbound.specs.Subject.{Subject, subject_in}
use Rattle.x12_outbound.specs.declared.entry.EntrySet.{EntrySet}
use Rattle.x12_outbound.specs.declared.fate.FinalFate.{FinalFate}
use Rattle.x12_outbound.specs.declared.fate.FinalFate.TheVariants.{Accepted, Noted, Rejected}
use Rattle.x12_outbound.specs.declared.evidence.Naming.{Naming}
use Rattle.x12_outbound.specs.declared.evidence.Naming.TheVariants.{Interchange, TransactionSet}
use Rattle.x12_outbound.specs.declared.evidence.Statement.{Statement}
use Rattle.x12_outbound.specs.declared.statement.NamedBy.{NamedBy}
use Rattle.x12_outbound.specs.declared.statement.NamedBy.TheVariants.{Interchange as ByInterchange, Group as ByGroup}
use Rattle.x12_outbound.specs.declared.statement.Origin.{Origin}

-- what names a transaction set: its interchange, or GS01 and GS06 of its group, and ST02
abbrev pub naming_by : NamedBy → EntrySet → Naming
naming_by ByInterchange s = Interchange
naming_by (ByGroup functional group) s = TransactionSet functional group s.number

-- the statement that the transaction set at a place ended so
abbrev pub told_of_set : Origin → FinalFate → ℕ × EntrySet → Statement
told_of_set o fate s = record {
  from = o.from;
  key = record { sender = o.sender; icn = o.icn; group = o.group; set = s.0 };
  naming = naming_by o.by s.1;
  fate = fate;
}

-- the same of each transaction set
abbrev pub all_told : Origin → FinalFate → List EntrySet → List (Option Statement)
all_told o fate sets = map (λ s. Some (told_of_set o fate s)) (enumerate_from 1 sets)

-- the evidence that a statement is, or that answers nothing which was submitted
abbrev pub evidence_told : Option Statement → Evidence
evidence_told s = stated (option_map set_statement_view s)

-- what a statement names beside its set
abbrev pub subject_told : Option Statement → Option Subject
subject_told s = subject_in (option_map set_statement_view s)

-- AK501: A accepts, E accepts with errors noted, and R, M, W and X reject
abbrev pub fate_by_code : AnswerCode → FinalFate
fate_by_code CodeAccepted = Accepted
fate_by_code ErrorsNoted = Noted
fate_by_code code = Rejected

-- the first transaction set of this number, with its place
abbrev pub set_numbered : List ℕ → List EntrySet → Option (ℕ × EntrySet)
set_numbered number sets =
    find (λ s. bytes_eq (bytes_of_set_no s.1.number) number) (enumerate_from 1 sets)

-- of each listed transaction set what is listed; None of one that the group lacks
abbrev pub listed_told :
    Origin → List EntrySet → List (SetNo × AnswerCode) → List (Option Statement)
listed_told o sets listed =
    map (λ a. option_map (told_of_set o (fate_by_code a.1)) (set_numbered (bytes_of_set_no a.0) sets)) listed

-- a transaction set of this number is listed
abbrev pub is_listed : List (SetNo × AnswerCode) → List ℕ → Bool
is_listed listed number = list_any (λ a. bytes_eq (bytes_of_set_no a.0) number) listed

-- of each transaction set that isn't listed that it was accepted
abbrev pub unlisted_told :
    Origin → List EntrySet → List (SetNo × AnswerCode) → List (Option Statement)
unlisted_told o sets listed =
    map (λ s. Some (told_of_set o Accepted s))
    (filter (λ s. not (is_listed listed (bytes_of_set_no s.1.number))) (enumerate_from 1 sets))

-- by AK901: A and E accept all that aren't listed, P says nothing of them; R, M, W and X reject all
unfoldable pub told_of_group :
    Origin → AnswerCode → List EntrySet → List (SetNo × AnswerCode) → List (Option Statement)
told_of_group o CodeAccepted sets listed = listed_told o sets listed ++ unlisted_told o sets listed
told_of_group o ErrorsNoted sets listed = listed_told o sets listed ++ unlisted_told o sets listed
told_of_group o PartiallyAccepted sets listed = listed_told o sets listed
told_of_group o code sets listed = all_told o Rejected sets
