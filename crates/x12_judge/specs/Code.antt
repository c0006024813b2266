-- The numbers of the codes of a functional acknowledgment (997), as the standard lists them.
use Rattle.std.specs.Prelude.{ℕ}
use Rattle.x12_judge.specs.declared.verdict.GroupRefusal.{GroupRefusal}
use Rattle.x12_judge.specs.declared.verdict.GroupRefusal.TheVariants as group
use Rattle.x12_judge.specs.declared.verdict.SetCode.{SetCode}
use Rattle.x12_judge.specs.declared.verdict.SetCode.TheVariants as set
use Rattle.x12_judge.specs.declared.verdict.SegmentCode.{SegmentCode}
use Rattle.x12_judge.specs.declared.verdict.SegmentCode.TheVariants as segment
use Rattle.x12_judge.specs.declared.verdict.ElementCode.{ElementCode}
use Rattle.x12_judge.specs.declared.verdict.ElementCode.TheVariants as element

-- AK905, the functional group syntax error code
abbrev pub group_refusal_number : GroupRefusal → ℕ
group_refusal_number group.NotSupported = 1
group_refusal_number group.VersionNotSupported = 2
group_refusal_number group.TrailerMissing = 3
group_refusal_number group.NumbersDiffer = 4
group_refusal_number group.CountWrong = 5

-- AK502, the transaction set syntax error code
abbrev pub set_code_number : SetCode → ℕ
set_code_number set.NotSupported = 1
set_code_number set.TrailerMissing = 2
set_code_number set.NumbersDiffer = 3
set_code_number set.CountWrong = 4
set_code_number set.SegmentsInError = 5
set_code_number set.NumberNotUnique = 23

-- AK304, the segment syntax error code
abbrev pub segment_code_number : SegmentCode → ℕ
segment_code_number segment.Unrecognized = 1
segment_code_number segment.Missing = 3
segment_code_number segment.ExceedsMaximumUse = 5
segment_code_number segment.ElementErrors = 8

-- AK403, the data element syntax error code
abbrev pub element_code_number : ElementCode → ℕ
element_code_number element.Missing = 1
element_code_number element.TooShort = 4
element_code_number element.TooLong = 5
element_code_number element.InvalidCharacter = 6
element_code_number element.InvalidDate = 8
