-- What is remarked of a transaction set by a table of rows.
use Rattle.std.specs.Borrow.{Bor}
use Rattle.std.specs.Prelude.{◌≡◌, ℕ, Bool, false, ◌&&◌, ◌||◌, not, List, [], ◌∷◌, ◌++◌, length, filter, find, filter_map, flat_map, Option, Some, None, option_map, if◌then◌else◌, ◌==◌, bytes_eq, codes}
use Rattle.std.specs.List.{list_any, enumerate_from, slice_split}
use Rattle.x12_envelopes.specs.declared.delimiters.Delims.{Delims}
use Rattle.x12_envelopes.specs.Byte.{number_of_digits}
use Rattle.x12_envelopes.specs.Segment.{parts_of, element_of}
use Rattle.x12_envelopes.specs.Writing.{texts}
use Rattle.x12_lint.specs.declared.element.ElementKind.TheVariants.{Integer}
use Rattle.x12_lint.specs.declared.element.Rule.{Rule}
use Rattle.x12_lint.specs.declared.element.Flaw.{Flaw}
use Rattle.x12_lint.specs.declared.remark.Remark.{Remark}
use Rattle.x12_lint.specs.declared.remark.Remark.TheVariants.{UnknownSet, UnknownSegment, MissingSegment, Element, Count}
use Rattle.x12_lint.specs.declared.table.SegmentRules.{SegmentRules}
use Rattle.x12_lint.specs.declared.table.SegmentRow.{SegmentRow}
use Rattle.x12_lint.specs.declared.table.Counting.{Counting}
use Rattle.x12_lint.specs.declared.table.SetRows.{SetRows}
use Rattle.x12_lint.specs.declared.table.Table.{Table}
use Rattle.x12_lint.specs.Element.{flaw_of_element, is_of_kind}

-- A remark: the table has no rows for the set; or at a position of the set (ST is 1) a segment that its
-- rows don't have; at its last position that it lacks a segment; a segment with an element that has a
-- flaw by its rule; or a segment that counts others, of which there are so many.
pub data SetRemark : Type 0 where
  unknown_set : SetRemark
  unknown_segment : ℕ → List ℕ → SetRemark
  missing_segment : ℕ → List ℕ → SetRemark
  wrong_element : ℕ → List ℕ → Rule → Flaw → SetRemark
  wrong_count : ℕ → List ℕ → List ℕ → ℕ → SetRemark

-- what the code's remark stands for
abbrev pub remark_view : Remark → SetRemark
remark_view UnknownSet = unknown_set
remark_view (UnknownSegment position segment) = unknown_segment position segment.now
remark_view (MissingSegment position identifier) = missing_segment position identifier.now
remark_view (Element position segment rule flaw) =
    wrong_element position segment.now rule.now flaw
remark_view (Count position segment counted number) =
    wrong_count position segment.now counted.now number

-- a segment has this identifier
abbrev pub part_is_named : Delims → List ℕ → List ℕ → Bool
part_is_named d name part = bytes_eq (element_of d part 0) name

-- bytes are cut at each element separator of a segment
abbrev pub AreElements : Delims → List ℕ → List (Bor (List ℕ)) → Type 0
AreElements d part elements = texts elements ≡ slice_split (λ b. b == d.element) part

-- the rules of the elements of a segment: those of the first row with its identifier
abbrev pub rules_in : Option SegmentRules → List Rule
rules_in None = []
rules_in (Some r) = r.rules.items

unfoldable pub rules_by_name : Table → List ℕ → List Rule
rules_by_name t name = rules_in (find (λ r. bytes_eq r.segment.items name) t.segments.items)

-- what is remarked of an element of a segment
unfoldable pub remark_of_element : Delims → ℕ → List ℕ → Rule → Option SetRemark
remark_of_element d position part r =
    option_map (wrong_element position part r) (flaw_of_element r (element_of d part r.place))

-- a header or a trailer of a set
abbrev pub is_envelope : List ℕ → Bool
is_envelope name = bytes_eq name (codes "ST") || bytes_eq name (codes "SE")

-- a segment of this identifier stands in the rows of a set
abbrev pub has_row : SetRows → List ℕ → Bool
has_row rows name = list_any (λ r. bytes_eq r.segment.items name) rows.segments.items

-- that a segment isn't in the rows of its set
abbrev pub remarks_if_unknown : SetRows → List ℕ → ℕ → List ℕ → List SetRemark
remarks_if_unknown rows name position part =
    if has_row rows name then [] else unknown_segment position part ∷ []

-- what is remarked of a segment between ST and SE
unfoldable pub remarks_of_segment : Table → SetRows → Delims → ℕ × List ℕ → List SetRemark
remarks_of_segment t rows d placed =
    let name = element_of d placed.1 0 in
    if is_envelope name then []
    else remarks_if_unknown rows name placed.0 placed.1
    ++ filter_map (remark_of_element d placed.0 placed.1) (rules_by_name t name)

-- that a segment which has to be there isn't
unfoldable pub remark_of_missing : Delims → List (List ℕ) → SegmentRow → Option SetRemark
remark_of_missing d parts r =
    if r.is_required && not (list_any (part_is_named d r.segment.items) parts)
    then Some (missing_segment (length parts) r.segment.items) else None

abbrev pub is_this_number : Option ℕ → ℕ → Bool
is_this_number (Some n) number = n == number
is_this_number None number = false

-- a text is a number, but another one than this
abbrev pub is_another_number : List ℕ → ℕ → Bool
is_another_number text number =
    is_of_kind Integer text && not (is_this_number (number_of_digits text) number)

-- a segment at a position of its set
abbrev pub placed_at : ℕ → List ℕ → ℕ × List ℕ
placed_at position part = (position, part)

-- that the first segment which counts says another number
abbrev pub remark_of_counting : Delims → List ℕ → ℕ → Option (ℕ × List ℕ) → Option SetRemark
remark_of_counting d counted number None = None
remark_of_counting d counted number (Some placed) =
    if is_another_number (element_of d placed.1 1) number
    then Some (wrong_count placed.0 placed.1 counted number) else None

-- that a count isn't the number of the segments that it counts
unfoldable pub remark_of_count : Delims → List (List ℕ) → Counting → Option SetRemark
remark_of_count d parts c =
    remark_of_counting d c.counted.items (length (filter (part_is_named d c.counted.items) parts))
    (find (λ p. part_is_named d c.segment.items p.1) (enumerate_from 1 parts))

-- what is remarked of a set that has rows: of each of its segments, of each that it lacks, of each count
unfoldable pub remarks_by_rows : Table → Delims → List (List ℕ) → SetRows → List SetRemark
remarks_by_rows t d parts rows =
    flat_map (remarks_of_segment t rows d) (enumerate_from 1 parts)
    ++ filter_map (remark_of_missing d parts) rows.segments.items
    ++ filter_map (remark_of_count d parts) rows.counts.items

abbrev pub remarks_by : Table → Delims → List (List ℕ) → Option SetRows → List SetRemark
remarks_by t d parts None = unknown_set ∷ []
remarks_by t d parts (Some rows) = remarks_by_rows t d parts rows

-- what is remarked of a set of this identifier: by the first rows for it
unfoldable pub remarks_of_set : Table → Delims → List ℕ → List ℕ → List SetRemark
remarks_of_set t d identifier set =
    remarks_by t d (parts_of d set) (find (λ r. bytes_eq r.set.items identifier) t.sets.items)
