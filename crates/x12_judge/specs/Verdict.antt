-- What a judgement says of an interchange (TA1), and of its functional groups (AK9).
use Rattle.std.specs.Prelude.{ℕ, Bool, not, List, [], map, filter, Option, Some, None, Ok}
use Rattle.std.specs.Prelude.{Err, codes, bytes_eq}
use Rattle.std.specs.List.{enumerate_from}
use Rattle.x12_envelopes.specs.declared.party.Party.{Party}
use Rattle.x12_envelopes.specs.declared.header.Header.{Header}
use Rattle.x12_envelopes.specs.Place.{its_place, its_item}
use Rattle.x12_envelopes.specs.Outline.{outline_of}
use Rattle.x12_envelopes.specs.Shape.{FunctionalGroup, bytes_of_set_no}
use Rattle.x12_judge.specs.declared.verdict.SetNote.{SetNote}
use Rattle.x12_judge.specs.declared.verdict.SetNote.TheVariants.{Segment, Element}
use Rattle.x12_judge.specs.declared.verdict.SetVerdict.{SetVerdict}
use Rattle.x12_judge.specs.declared.verdict.GroupVerdict.{GroupVerdict}
use Rattle.x12_judge.specs.declared.verdict.Verdict.{Verdict}
use Rattle.x12_judge.specs.declared.verdict.Verdict.TheVariants.{Refused, Judged}
use Rattle.x12_judge.specs.declared.verdict.Judgement.{Judgement}
use Rattle.x12_judge.specs.Agreement.{TradingAgreement}
use Rattle.x12_judge.specs.Controls.{JudgingTerms}
use Rattle.x12_judge.specs.Interchange.{Reading, note_of_interchange, reading_is_silent}
use Rattle.x12_judge.specs.Set.{TransactionSetVerdict, ReportedNote, segment, element}
use Rattle.x12_judge.specs.Group.{FunctionalGroupVerdict, verdict_of_group}

-- refused as a whole with a note, or judged group by group
pub data InterchangeVerdict : Type 0 where
  refused : ℕ → InterchangeVerdict
  judged : List FunctionalGroupVerdict → InterchangeVerdict

-- whether an interchange is never answered, and what it deserves
pub record InterchangeJudgement : Type 0 where
  pub silent : Bool
  pub verdict : InterchangeVerdict

-- a group of acknowledgments
abbrev pub group_is_acknowledgment : FunctionalGroup → Bool
group_is_acknowledgment g = bytes_eq g.functional (codes "FA")

-- the verdict of each group that isn't one of acknowledgments
unfoldable pub verdicts_of_groups :
    List TradingAgreement → Header → Reading → List FunctionalGroupVerdict
verdicts_of_groups agreements h (Ok x) =
    map (λ p. verdict_of_group agreements h.sender h.delims (its_place p) (its_item p))
    (filter (λ p. not (group_is_acknowledgment (its_item p))) (enumerate_from 1 x.groups))
verdicts_of_groups agreements h (Err fault) = []

-- refused where there is a note, and else judged
abbrev pub verdict_by : Option ℕ → List FunctionalGroupVerdict → InterchangeVerdict
verdict_by (Some note) groups = refused note
verdict_by None groups = judged groups

-- what an interchange with this header deserves, by its outline or the fault that ended its reading
abbrev pub judgement_by : Party → JudgingTerms → Header → Reading → InterchangeJudgement
judgement_by me terms h reading = record {
  silent = reading_is_silent reading;
  verdict =
      verdict_by (note_of_interchange terms.controls me h reading)
      (verdicts_of_groups terms.agreements h reading);
}

-- what an interchange with this header deserves at this station, by these terms
unfoldable pub judgement_of : Party → JudgingTerms → Header → List ℕ → InterchangeJudgement
judgement_of me terms h bytes = judgement_by me terms h (outline_of h.delims bytes)

-- What the code's judgement stands for.

-- a note on a segment or on one of its elements
abbrev pub note_view : SetNote → ReportedNote
note_view (Segment identifier position code) = segment identifier.now position code
note_view (Element place reference code copy) =
    element (record { place = place; reference = reference; code = code; copy = copy.now })

-- a transaction set's verdict
abbrev pub set_verdict_view : SetVerdict → TransactionSetVerdict
set_verdict_view v = record {
  set = v.set;
  number = bytes_of_set_no v.number;
  bytes = v.bytes.now;
  result = v.result;
  codes = v.codes.items;
  notes = map note_view v.notes.items;
}

-- a functional group's verdict
abbrev pub group_verdict_view : GroupVerdict → FunctionalGroupVerdict
group_verdict_view v = record {
  place = v.place;
  functional = v.functional;
  sender = v.sender.now;
  receiver = v.receiver.now;
  number_text = v.number_text.now;
  included = v.included;
  received = v.received;
  accepted = v.accepted;
  refused = v.refused;
  sets = map set_verdict_view v.sets.items;
}

-- an interchange's verdict
abbrev pub verdict_view : Verdict → InterchangeVerdict
verdict_view (Refused note) = refused note.0
verdict_view (Judged groups) = judged (map group_verdict_view groups.items)

-- what an interchange deserves
abbrev pub judgement_view : Judgement → InterchangeJudgement
judgement_view j = record { silent = j.silent; verdict = verdict_view j.verdict }
