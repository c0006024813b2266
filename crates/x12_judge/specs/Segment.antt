-- The notes of a purchase order's segments (997, AK3 and AK4).
use Rattle.std.specs.Prelude.{ℕ, ◌+◌, Bool, ◌&&◌, ◌||◌, not, List, [], ◌∷◌, ◌++◌, length, take}
use Rattle.std.specs.Prelude.{Option, None, ◌==◌, nat_lt, nat_le, slice_index, codes}
use Rattle.std.specs.Prelude.{bytes_eq, flat_map, filter_map, option_map, if◌then◌else◌}
use Rattle.std.specs.List.{list_all, list_any, enumerate_from}
use Rattle.std.specs.Char.{is_ascii_uppercase}
use Rattle.x12_envelopes.specs.Place.{its_place, its_item}
use Rattle.x12_envelopes.specs.declared.delimiters.Delims.{Delims}
use Rattle.x12_envelopes.specs.Row.{held_of_rows}
use Rattle.x12_envelopes.specs.Byte.{byte_is_capital_or_digit}
use Rattle.x12_envelopes.specs.Segment.{element_of}
use Rattle.x12_judge.specs.declared.verdict.ElementCode.{ElementCode}
use Rattle.x12_judge.specs.declared.verdict.SegmentCode.{SegmentCode}
use Rattle.x12_judge.specs.declared.verdict.SegmentCode.TheVariants.{Unrecognized, Missing}
use Rattle.x12_judge.specs.declared.verdict.SegmentCode.TheVariants.{ExceedsMaximumUse}
use Rattle.x12_judge.specs.declared.verdict.SegmentCode.TheVariants.{ElementErrors}
use Rattle.x12_judge.specs.declared.element.ElementRule.{ElementRule}
use Rattle.x12_judge.specs.Element.{rules_of_elements, fault_of_element, copy_of_element}

-- AK4: an element's place in its segment, its data element number, what is wrong, and a copy of it
pub record ElementNote : Type 0 where
  pub place : ℕ
  pub reference : ℕ
  pub code : ElementCode
  pub copy : List ℕ

-- AK3: a segment's identifier, its position in the set, what is wrong, and its elements' notes
pub record SegmentNote : Type 0 where
  pub identifier : List ℕ
  pub position : ℕ
  pub code : SegmentCode
  pub elements : List ElementNote

-- the identifier of a segment
abbrev pub identifier_of : Delims → List ℕ → List ℕ
identifier_of d part = element_of d part 0

-- two or three capital letters and digits, the first a letter
unfoldable pub name_is_identifier : List ℕ → Bool
name_is_identifier name =
    nat_le 2 (length name) && nat_le (length name) 3
    && list_all byte_is_capital_or_digit name && is_ascii_uppercase (slice_index name 0)

-- a note on an element, by its rule
abbrev pub note_on_element : Delims → ElementRule → List ℕ → ElementCode → ElementNote
note_on_element d r value code =
    record { place = r.place; reference = r.reference; code = code; copy = copy_of_element d value }

-- the note of the element that a rule speaks of, if the segment is the rule's and the element is
-- wrong
unfoldable pub note_of_element : Delims → List ℕ → ElementRule → Option ElementNote
note_of_element d part r =
    let value = element_of d part r.place in
    if bytes_eq r.segment (identifier_of d part) then
    option_map (note_on_element d r value) (fault_of_element d r value)
    else None

-- the notes of a segment's elements, in the order of the rules
unfoldable pub element_notes : Delims → List ℕ → List ElementNote
element_notes d part = filter_map (note_of_element d part) rules_of_elements

-- a note on a segment; its identifier is cut to three bytes
abbrev pub note_on_segment : List ℕ → ℕ → SegmentCode → List ElementNote → SegmentNote
note_on_segment name position code elements =
    record { identifier = take 3 name; position = position; code = code; elements = elements }

-- the notes on the segment at a position, each row in the order of AK304
unfoldable pub notes_at : Delims → ℕ → List ℕ → List SegmentNote
notes_at d position part =
    let name = identifier_of d part in
    let is_beg = bytes_eq name (codes "BEG") in
    let faults = element_notes d part in
    held_of_rows (
    (not (name_is_identifier name), note_on_segment name position Unrecognized [])
    ∷ (position == 2 && not is_beg, note_on_segment (codes "BEG") 2 Missing [])
    ∷ (is_beg && nat_lt 2 position, note_on_segment name position ExceedsMaximumUse [])
    ∷ (
      (is_beg && position == 2 || bytes_eq name (codes "CTT")) && not (length faults == 0),
      note_on_segment name position ElementErrors faults,
    )
    ∷ [])

-- the notes of the segments from a position on
abbrev pub notes_from : Delims → ℕ → List (List ℕ) → List SegmentNote
notes_from d position body =
    flat_map (λ p. notes_at d (its_place p) (its_item p)) (enumerate_from position body)

-- some segment is a PO1
abbrev pub has_po1 : Delims → List (List ℕ) → Bool
has_po1 d body = list_any (λ part. bytes_eq (identifier_of d part) (codes "PO1")) body

-- the notes at the end position, SE's or one past the last segment
unfoldable pub notes_at_end : Delims → List (List ℕ) → List SegmentNote
notes_at_end d body = held_of_rows (
    (length body == 0, note_on_segment (codes "BEG") 2 Missing [])
    ∷ (not (has_po1 d body), note_on_segment (codes "PO1") (2 + length body) Missing [])
    ∷ [])

-- the notes of the segments between ST and SE: by position, then by AK304, then by identifier
unfoldable pub segment_notes : Delims → List (List ℕ) → List SegmentNote
segment_notes d body = notes_from d 2 body ++ notes_at_end d body
