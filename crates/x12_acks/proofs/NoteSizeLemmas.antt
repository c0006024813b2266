-- What a judgement notes of a transaction set is short.
use Rattle.std.proofs.Common.{◌≤◌, ℕ, ◌+◌, ◌-◌, ◌==◌, Bool, true, false, not, ◌&&◌, ◌||◌, List, [], ◌∷◌, length, take, drop, map, flat_map, if◌then◌else◌, codes, arith, length-take, length-drop, is_some}
use Rattle.std.specs.Prelude.{Option, Some, None, IfSome, nat_lt, bytes_eq, option_map}
use Rattle.std.specs.List.{AllByRecursion, position_or_len}
use Rattle.x12_envelopes.specs.declared.delimiters.Delims.{Delims}
use Rattle.x12_envelopes.specs.Segment.{element_of}
use Rattle.x12_envelopes.specs.Shape.{TransactionSet}
use Rattle.x12_judge.specs.declared.verdict.ElementCode.{ElementCode}
use Rattle.x12_judge.specs.declared.verdict.SegmentCode.{SegmentCode}
use Rattle.x12_judge.specs.declared.verdict.SegmentCode.TheVariants.{Unrecognized, Missing, ExceedsMaximumUse, ElementErrors}
use Rattle.x12_judge.specs.declared.element.ElementRule.{ElementRule}
use Rattle.x12_judge.specs.Element.{rules_of_elements, fault_of_element, copy_of_element}
use Rattle.x12_judge.specs.Segment.{ElementNote, SegmentNote, identifier_of, name_is_identifier, note_on_element, note_of_element, element_notes, note_on_segment, notes_at, notes_from, has_po1, notes_at_end, segment_notes}
use Rattle.x12_judge.specs.Set.{element, reported, without_trailer, body_of, notes_of_set}
use Rattle.x12_acks.proofs.FindingLemmas.{all_map}
use Rattle.x12_acks.proofs.AllOfLemmas.{all_taken, all_flat, all_held, all_found}
use Rattle.x12_numbers.proofs.Shelf.{all_append}
use Rattle.x12_acks.proofs.SetSizeLemmas.{IsShortElement, IsShortNote}

-- the note of a segment
pub record IsShortSegment (n : SegmentNote) : Type 0 where
  pub identifier : length n.identifier ≤ 3
  pub position : n.position ≤ 9999999
  pub elements : AllByRecursion IsShortElement n.elements

-- elements
abbrev IsSmallRule : ElementRule → Type 0
IsSmallRule r = (r.place ≤ 99) × (r.reference ≤ 9999)

small_rules : AllByRecursion IsSmallRule rules_of_elements
small_rules =
    ((omega arith, omega arith), ((omega arith, omega arith), ((omega arith, omega arith), ((omega arith, omega arith), ((omega arith, omega arith), tt)))))

copy_short : (d : Delims) (value : List ℕ) → length (copy_of_element d value) ≤ 99
unfolding copy_of_element
copy_short d value =
    let ends = length-take (position_or_len (λ b. b == d.component) (take 99 value)) (take 99 value) in
    omega (arith, ends, length-take 99 value)

noted_by : (d : Delims) (r : ElementRule) (value : List ℕ) → IsSmallRule r → (b : Bool) (o : Option ElementCode) → IfSome (if b then option_map (note_on_element d r value) o else None) IsShortElement
noted_by d r value small true (Some code) =
    record { place = small.0; reference = small.1; copy = copy_short d value }
noted_by d r value small true None = tt
noted_by d r value small false o = tt

noted : (d : Delims) (part : List ℕ) (r : ElementRule) → IsSmallRule r → IfSome (note_of_element d part r) IsShortElement
unfolding note_of_element
noted d part r small =
    let value = element_of d part r.place in
    noted_by d r value small (bytes_eq r.segment (identifier_of d part)) (fault_of_element d r value)

elements_short : (d : Delims) (part : List ℕ) → AllByRecursion IsShortElement (element_notes d part)
unfolding element_notes
elements_short d part =
    all_found IsShortElement (note_of_element d part) rules_of_elements (all_map {P = IsSmallRule} {Q = λ r. IfSome (note_of_element d part r) IsShortElement} (noted d part) rules_of_elements small_rules)

-- segments
note_short : (name : List ℕ) (position : ℕ) (code : SegmentCode) (elements : List ElementNote) → position ≤ 9999999 → AllByRecursion IsShortElement elements → IsShortSegment (note_on_segment name position code elements)
note_short name position code elements small short =
    record { identifier = omega (arith, length-take 3 name); position = small; elements = short }

at_short : (d : Delims) (position : ℕ) (part : List ℕ) → position ≤ 9999999 → AllByRecursion IsShortSegment (notes_at d position part)
unfolding notes_at
at_short d position part small =
    let name = identifier_of d part in
    let is_beg = bytes_eq name (codes "BEG") in
    let faults = element_notes d part in
    all_held IsShortSegment
    ((not (name_is_identifier name), note_on_segment name position Unrecognized [])
    ∷ (position == 2 && not is_beg, note_on_segment (codes "BEG") 2 Missing [])
    ∷ (is_beg && nat_lt 2 position, note_on_segment name position ExceedsMaximumUse [])
    ∷ ((is_beg && position == 2 || bytes_eq name (codes "CTT")) && not (length faults == 0), note_on_segment name position ElementErrors faults)
    ∷ [])
    (note_short name position Unrecognized [] small tt, (note_short (codes "BEG") 2 Missing [] (omega arith) tt, (note_short name position ExceedsMaximumUse [] small tt, (note_short name position ElementErrors faults small (elements_short d part), tt))))

from_short : (d : Delims) (position : ℕ) (body : List (List ℕ)) → position + length body ≤ 9999999 → AllByRecursion IsShortSegment (notes_from d position body)
from_short d position [] few = tt
from_short d position (part ∷ body) few =
    all_append IsShortSegment (notes_at d position part) (notes_from d (position + 1) body) (at_short d position part (omega (arith, few))) (from_short d (position + 1) body (omega (arith, few)))

end_short : (d : Delims) (body : List (List ℕ)) → 2 + length body ≤ 9999999 → AllByRecursion IsShortSegment (notes_at_end d body)
unfolding notes_at_end
end_short d body few =
    all_held IsShortSegment
    ((length body == 0, note_on_segment (codes "BEG") 2 Missing [])
    ∷ (not (has_po1 d body), note_on_segment (codes "PO1") (2 + length body) Missing [])
    ∷ [])
    (note_short (codes "BEG") 2 Missing [] (omega arith) tt, (note_short (codes "PO1") (2 + length body) Missing [] few tt, tt))

segments_short : (d : Delims) (body : List (List ℕ)) → 2 + length body ≤ 9999999 → AllByRecursion IsShortSegment (segment_notes d body)
unfolding segment_notes
segments_short d body few =
    all_append IsShortSegment (notes_from d 2 body) (notes_at_end d body) (from_short d 2 body few) (end_short d body few)

-- transaction sets
trailer_off : (b : Bool) (parts : List (List ℕ)) → length (without_trailer b parts) ≤ length parts
trailer_off true parts = omega (arith, length-take (length parts - 1) parts)
trailer_off false parts = omega arith

body_within : (s : TransactionSet) → length (body_of s) ≤ length s.parts
unfolding body_of
body_within s = omega (arith, trailer_off (is_some s.trailer) (drop 1 s.parts), length-drop 1 s.parts)

unless_noted : (b : Bool) (ns : List SegmentNote) → AllByRecursion IsShortSegment ns → AllByRecursion IsShortSegment (if b then ns else [])
unless_noted true ns short = short
unless_noted false ns short = tt

set_notes : (d : Delims) (agreed : Bool) (s : TransactionSet) → length s.parts ≤ 9999990 → AllByRecursion IsShortSegment (notes_of_set d agreed s)
unfolding notes_of_set
set_notes d agreed s few =
    unless_noted (agreed && bytes_eq s.set (codes "850")) (segment_notes d (body_of s)) (segments_short d (body_of s) (omega (arith, few, body_within s)))

-- as they are reported
elements_reported : (ns : List ElementNote) → AllByRecursion IsShortElement ns → AllByRecursion IsShortNote (map element ns)
elements_reported [] short = tt
elements_reported (n ∷ ns) short = (short.0, elements_reported ns short.1)

is_reported : (n : SegmentNote) → IsShortSegment n → AllByRecursion IsShortNote (reported n)
is_reported n short = ((short.identifier, short.position), elements_reported n.elements short.elements)

-- the first eight notes of a transaction set
pub notes_short : (d : Delims) (agreed : Bool) (s : TransactionSet) → length s.parts ≤ 9999990 → AllByRecursion IsShortNote (take 8 (flat_map reported (notes_of_set d agreed s)))
notes_short d agreed s few =
    all_taken IsShortNote 8 (flat_map reported (notes_of_set d agreed s)) (all_flat IsShortNote reported (notes_of_set d agreed s)
    (all_map {P = IsShortSegment} {Q = λ n. AllByRecursion IsShortNote (reported n)} is_reported (notes_of_set d agreed s) (set_notes d agreed s few)))
