-- How many bytes a transaction set's part of a 997 takes.
use Rattle.std.proofs.Common.{◌≤◌, ◌<◌, ℕ, ◌+◌, ◌*◌, List, [], ◌∷◌, length, map, decimal, codes, arith, flat_map}
use Rattle.std.specs.List.{AllByRecursion}
use Rattle.x12_envelopes.specs.declared.delimiters.Delims.{Delims}
use Rattle.x12_envelopes.specs.Segment.{Segment, segment_text}
use Rattle.x12_judge.specs.declared.verdict.SetCode.{SetCode}
use Rattle.x12_judge.specs.declared.verdict.SetCode.TheVariants as set
use Rattle.x12_judge.specs.declared.verdict.SegmentCode.{SegmentCode}
use Rattle.x12_judge.specs.declared.verdict.SegmentCode.TheVariants as seg
use Rattle.x12_judge.specs.declared.verdict.ElementCode.{ElementCode}
use Rattle.x12_judge.specs.declared.verdict.ElementCode.TheVariants as elem
use Rattle.x12_judge.specs.Code.{set_code_number, segment_code_number, element_code_number}
use Rattle.x12_judge.specs.Segment.{ElementNote}
use Rattle.x12_judge.specs.declared.verdict.SetResult.{SetResult}
use Rattle.x12_judge.specs.declared.verdict.SetResult.TheVariants.{Accepted, Noted, Rejected}
use Rattle.x12_judge.specs.Set.{TransactionSetVerdict, ReportedNote, segment, element}
use Rattle.x12_acks.specs.Reply.{code_of_result, code_of_set, segment_code, element_code, unless_empty, ak3_segment, ak4_segment, note_segment, ak5_segment, set_answer}
use Rattle.x12_acks.proofs.SizeLemmas.{sized, text_sized, text_size, size-cons, size-append, size_between, short_decimal}

-- an element's note: place and reference of few digits, and a copy that was cut
pub record IsShortElement (n : ElementNote) : Type 0 where
  pub place : n.place ≤ 99
  pub reference : n.reference ≤ 9999
  pub copy : length n.copy ≤ 99

-- a note as it is reported: an identifier of at most three bytes, a position of at most seven digits
abbrev pub IsShortNote : ReportedNote → Type 0
IsShortNote (segment name position code) = (length name ≤ 3) × (position ≤ 9999999)
IsShortNote (element n) = IsShortElement n

-- the verdict of a transaction set
pub record IsShortSet (v : TransactionSetVerdict) : Type 0 where
  pub set' : length v.set ≤ 3
  pub number : length v.number ≤ 9
  pub codes' : length v.codes ≤ 6
  pub few : length v.notes ≤ 8
  pub notes : AllByRecursion IsShortNote v.notes

two_digits : (n : ℕ) → n < 100 → length (decimal n) ≤ 2
two_digits n below = short_decimal 2 n (omega arith) (omega (arith, below)) (omega (arith, below))

segment_below : (c : SegmentCode) → segment_code_number c < 100
segment_below seg.Unrecognized = omega arith
segment_below seg.Missing = omega arith
segment_below seg.ExceedsMaximumUse = omega arith
segment_below seg.ElementErrors = omega arith

element_below : (c : ElementCode) → element_code_number c < 100
element_below elem.Missing = omega arith
element_below elem.TooShort = omega arith
element_below elem.TooLong = omega arith
element_below elem.InvalidCharacter = omega arith
element_below elem.InvalidDate = omega arith

set_below : (c : SetCode) → set_code_number c < 100
set_below set.NotSupported = omega arith
set_below set.TrailerMissing = omega arith
set_below set.NumbersDiffer = omega arith
set_below set.CountWrong = omega arith
set_below set.SegmentsInError = omega arith
set_below set.NumberNotUnique = omega arith

copy_sized : (copy : List ℕ) → sized (unless_empty copy) ≤ length copy + 1
copy_sized [] = omega arith
copy_sized (b ∷ bytes) = omega arith

ak3_size : (d : Delims) (name : List ℕ) (position : ℕ) (code : SegmentCode) → length name ≤ 3 → position ≤ 9999999 → length (segment_text d (ak3_segment name position code)) ≤ 115
ak3_size d name position code short small =
    let whole = text_sized d (codes "AK3") (name ∷ decimal position ∷ [] ∷ segment_code code ∷ []) in
    let digits = short_decimal 7 position (omega arith) (omega (arith, small)) (omega (arith, small)) in
    omega (arith, whole, digits, short, two_digits (segment_code_number code) (segment_below code))

ak4_size : (d : Delims) (n : ElementNote) → IsShortElement n → length (segment_text d (ak4_segment n)) ≤ 115
ak4_size d n short =
    let whole = text_sized d (codes "AK4") (decimal n.place ∷ decimal n.reference ∷ element_code n.code ∷ unless_empty n.copy) in
    let place = short_decimal 2 n.place (omega arith) (omega (arith, short.place)) (omega (arith, short.place)) in
    let reference = short_decimal 4 n.reference (omega arith) (omega (arith, short.reference)) (omega (arith, short.reference)) in
    let code = two_digits (element_code_number n.code) (element_below n.code) in
    omega (arith, whole, place, reference, code, copy_sized n.copy, short.copy)

note_size : (d : Delims) (n : ReportedNote) → IsShortNote n → length (segment_text d (note_segment n)) ≤ 115
note_size d (segment name position code) short = ak3_size d name position code short.0 short.1
note_size d (element n) short = ak4_size d n short

notes_size : (d : Delims) (ns : List ReportedNote) → AllByRecursion IsShortNote ns → text_size d (map note_segment ns) ≤ 115 * length ns
notes_size d [] short = omega arith
notes_size d (n ∷ ns) short =
    omega (arith, size-cons d (note_segment n) (map note_segment ns), note_size d n short.0, notes_size d ns short.1)

codes_sized : (cs : List SetCode) → sized (map code_of_set cs) ≤ 3 * length cs
codes_sized [] = omega arith
codes_sized (c ∷ cs) = omega (arith, two_digits (set_code_number c) (set_below c), codes_sized cs)

letter_sized : (r : SetResult) → length (code_of_result r) ≤ 1
letter_sized Accepted = omega arith
letter_sized Noted = omega arith
letter_sized Rejected = omega arith

ak5_size : (d : Delims) (v : TransactionSetVerdict) → length v.codes ≤ 6 → length (segment_text d (ak5_segment v)) ≤ 24
ak5_size d v few =
    let whole = text_sized d (codes "AK5") (code_of_result v.result ∷ map code_of_set v.codes) in
    omega (arith, whole, letter_sized v.result, codes_sized v.codes, few)

-- AK2, at most eight notes, AK5
set_size : (d : Delims) (v : TransactionSetVerdict) → IsShortSet v → text_size d (set_answer v) ≤ 975
unfolding set_answer
set_size d v short =
    let ak2 : Segment = codes "AK2" ∷ v.set ∷ v.number ∷ [] in
    let whole = size_between d ak2 (ak5_segment v) (map note_segment v.notes) in
    let first = text_sized d (codes "AK2") (v.set ∷ v.number ∷ []) in
    omega (arith, whole, first, notes_size d v.notes short.notes, ak5_size d v short.codes', short.set', short.number, short.few)

pub sets_size : (d : Delims) (vs : List TransactionSetVerdict) → AllByRecursion IsShortSet vs → text_size d (flat_map set_answer vs) ≤ 975 * length vs
sets_size d [] short = omega arith
sets_size d (v ∷ vs) short =
    omega (arith, size-append d (set_answer v) (flat_map set_answer vs), set_size d v short.0, sets_size d vs short.1)
