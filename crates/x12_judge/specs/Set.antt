-- The codes and notes of a transaction set (997, AK5).
use Rattle.std.specs.Prelude.{ℕ, ◌-◌, Bool, true, false, ◌&&◌, not, List, [], ◌∷◌, map}
use Rattle.std.specs.Prelude.{length, take, drop, Option, Some, None, if◌then◌else◌, ◌==◌, is_some}
use Rattle.std.specs.Prelude.{is_none, codes, bytes_eq, flat_map, unwrap_or}
use Rattle.std.specs.List.{list_any}
use Rattle.x12_envelopes.specs.declared.delimiters.Delims.{Delims}
use Rattle.x12_envelopes.specs.Row.{held_of_rows, first_of_rows}
use Rattle.x12_envelopes.specs.Shape.{TransactionSet, TransactionSetTrailer}
use Rattle.x12_judge.specs.declared.verdict.SetCode.{SetCode}
use Rattle.x12_judge.specs.declared.verdict.SetCode.TheVariants.{NotSupported, TrailerMissing}
use Rattle.x12_judge.specs.declared.verdict.SetCode.TheVariants.{NumbersDiffer, CountWrong}
use Rattle.x12_judge.specs.declared.verdict.SetCode.TheVariants.{SegmentsInError, NumberNotUnique}
use Rattle.x12_judge.specs.declared.verdict.SegmentCode.{SegmentCode}
use Rattle.x12_judge.specs.declared.verdict.SegmentCode.TheVariants.{ElementErrors}
use Rattle.x12_judge.specs.declared.verdict.SetResult.{SetResult}
use Rattle.x12_judge.specs.declared.verdict.SetResult.TheVariants.{Accepted, Noted, Rejected}
use Rattle.x12_judge.specs.Interchange.{value_is_number}
use Rattle.x12_judge.specs.Segment.{SegmentNote, ElementNote, segment_notes}

-- segments without the last one, if that is SE
abbrev pub without_trailer : {X : Type 0} → Bool → List X → List X
without_trailer true parts = take (length parts - 1) parts
without_trailer false parts = parts

-- the segments between ST and SE
unfoldable pub body_of : TransactionSet → List (List ℕ)
body_of s = without_trailer (is_some s.trailer) (drop 1 s.parts)

-- the notes of a set: of a purchase order (850) that is agreed, and of no other
unfoldable pub notes_of_set : Delims → Bool → TransactionSet → List SegmentNote
notes_of_set d agreed s =
    if agreed && bytes_eq s.set (codes "850") then segment_notes d (body_of s) else []

-- what SE says, where there is one
abbrev pub trailer_says : Option TransactionSetTrailer → (TransactionSetTrailer → Bool) → Bool
trailer_says None test = false
trailer_says (Some t) test = test t

-- an earlier set of the group has this control number
abbrev pub is_repeated : List TransactionSet → TransactionSet → Bool
is_repeated earlier s = list_any (λ e. bytes_eq e.number s.number) earlier

-- the rows of AK502: each a condition and its code
abbrev pub code_rows : Bool → Bool → Bool → TransactionSet → List (Bool × SetCode)
code_rows agreed noted repeated s =
    (not agreed, NotSupported)
    ∷ (is_none s.trailer, TrailerMissing)
    ∷ (trailer_says s.trailer (λ t. not (bytes_eq t.number s.number)), NumbersDiffer)
    ∷ (trailer_says s.trailer (λ t. not (value_is_number s.segments t.count)), CountWrong)
    ∷ (noted, SegmentsInError)
    ∷ (repeated, NumberNotUnique)
    ∷ []

-- the codes of a set that is agreed or not, has notes or not, and repeats a number or not: each row
-- that holds
unfoldable pub codes_by : Bool → Bool → Bool → TransactionSet → List SetCode
codes_by agreed noted repeated s = held_of_rows (code_rows agreed noted repeated s)

-- the codes of a set whose pair is agreed or not, behind these other sets of its group
unfoldable pub codes_of_set : Delims → Bool → List TransactionSet → TransactionSet → List SetCode
codes_of_set d agreed earlier s =
    codes_by agreed (not (length (notes_of_set d agreed s) == 0)) (is_repeated earlier s) s

-- what an acknowledgment reports: a segment (AK3), or an element of the segment before (AK4)
pub data ReportedNote : Type 0 where
  segment : List ℕ → ℕ → SegmentCode → ReportedNote
  element : ElementNote → ReportedNote

-- a segment's note, then those of its elements
abbrev pub reported : SegmentNote → List ReportedNote
reported n = segment n.identifier n.position n.code ∷ map element n.elements

-- segments in error are all that is wrong
abbrev pub only_segments_are_in_error : List SetCode → Bool
only_segments_are_in_error (SegmentsInError ∷ []) = true
only_segments_are_in_error codes = false

-- what is wrong with a segment isn't errors in its elements
abbrev pub is_other_code : SegmentCode → Bool
is_other_code ElementErrors = false
is_other_code code = true

-- a note on a segment for another reason than errors in its elements
abbrev pub is_of_no_element : SegmentNote → Bool
is_of_no_element n = is_other_code n.code

-- AK501: accepted where no code holds; noted, where the partner is lenient and errors in elements are all
-- that is wrong; and else rejected
unfoldable pub result_by : Bool → Bool → List SetCode → SetResult
result_by lenient other codes = unwrap_or (first_of_rows (
    (length codes == 0, Accepted)
    ∷ (lenient && not other && only_segments_are_in_error codes, Noted)
    ∷ [])) Rejected

-- whether the set is accepted, with or without errors noted: its receiver takes it over
abbrev pub takes : SetResult → Bool
takes Accepted = true
takes Noted = true
takes Rejected = false

-- accepted with errors noted
abbrev pub is_noted : SetResult → Bool
is_noted Noted = true
is_noted result = false

-- what a set deserves
pub record TransactionSetVerdict : Type 0 where
  pub set : List ℕ
  pub number : List ℕ
  pub bytes : List ℕ
  pub result : SetResult
  pub codes : List SetCode
  pub notes : List ReportedNote

-- accepted, with or without errors noted (AK501 is A or E)
abbrev pub set_is_accepted : TransactionSetVerdict → Bool
set_is_accepted v = takes v.result

-- the verdict of a set, of a partner who is lenient or not: all its codes, and the first eight of its
-- notes
unfoldable pub verdict_of_set :
    Delims → Bool → Bool → List TransactionSet → TransactionSet → TransactionSetVerdict
verdict_of_set d agreed lenient earlier s = record {
  set = s.set;
  number = s.number;
  bytes = s.bytes;
  result = result_by lenient (list_any is_of_no_element (notes_of_set d agreed s))
      (codes_of_set d agreed earlier s);
  codes = codes_of_set d agreed earlier s;
  notes = take 8 (flat_map reported (notes_of_set d agreed s));
}
