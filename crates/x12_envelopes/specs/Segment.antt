-- Segments and their elements (X12.6): a segment is an identifier and elements, each behind an
-- element separator, and ends in the terminator.
use Rattle.std.specs.Prelude.{ℕ, ◌+◌, ◌-◌, List, [], ◌∷◌, ◌++◌, length, take, drop, ◌==◌, unwrap_or}
use Rattle.std.specs.Prelude.{slice_get, flat_map}
use Rattle.std.specs.List.{prefix_len, suffix_len, slice_split}
use Rattle.x12_envelopes.specs.declared.delimiters.Delims.{Delims}
use Rattle.x12_envelopes.specs.Byte.{byte_is_line_end}

-- a segment as it is meant: its identifier, then its elements
abbrev pub Segment : Type 0
Segment = List (List ℕ)

-- the written text of a segment: its elements joined by the element separator, then the terminator
unfoldable pub segment_text : Delims → Segment → List ℕ
segment_text d [] = d.terminator ∷ []
segment_text d (identifier ∷ elements) =
    identifier ++ flat_map (λ element. d.element ∷ element) elements ++ d.terminator ∷ []

-- the written text of segments, one behind the other
abbrev pub text_of : Delims → List Segment → List ℕ
text_of d segments = flat_map (segment_text d) segments

-- bytes that were read: the line ends in front of a segment are skipped
abbrev pub behind_line_ends : List ℕ → List ℕ
behind_line_ends bytes = drop (prefix_len byte_is_line_end bytes) bytes

-- of bytes cut at the terminators, the pieces that end in one, without the line ends in front
abbrev pub ended_pieces : List (List ℕ) → List (List ℕ)
ended_pieces [] = []
ended_pieces (last ∷ []) = []
ended_pieces (piece ∷ next ∷ pieces) = behind_line_ends piece ∷ ended_pieces (next ∷ pieces)

-- the segments that bytes hold, each without its terminator and without the line ends in front
unfoldable pub parts_of : Delims → List ℕ → List (List ℕ)
parts_of d bytes = ended_pieces (slice_split (λ b. b == d.terminator) bytes)

-- a segment without its trailing empty elements: X12.6 lets them be left off
unfoldable pub trimmed_segment : Delims → List ℕ → List ℕ
trimmed_segment d part = take (length part - suffix_len (λ b. b == d.element) part) part

-- the identifier and the elements of a segment that was read
unfoldable pub elements_of : Delims → List ℕ → Segment
elements_of d part = slice_split (λ b. b == d.element) (trimmed_segment d part)

-- an element by its place from 1, and the identifier at 0: empty where it is missing
unfoldable pub element_of : Delims → List ℕ → ℕ → List ℕ
element_of d part n = unwrap_or (slice_get (elements_of d part) n) []

-- how many elements follow the identifier
unfoldable pub count_of_elements : Delims → List ℕ → ℕ
count_of_elements d part = length (elements_of d part) - 1

-- a segment where it stands in an interchange: its offset from the I of ISA, and its bytes
pub record PlacedSegment : Type 0 where
  pub at : ℕ
  pub bytes : List ℕ

-- a piece at an offset, as a segment: the line ends in front of it are skipped
abbrev pub place_piece : ℕ → List ℕ → PlacedSegment
place_piece at piece =
    record { at = at + prefix_len byte_is_line_end piece; bytes = behind_line_ends piece }

-- pieces from an offset on, as segments: a terminator stands behind each
abbrev pub place_pieces : ℕ → List (List ℕ) → List PlacedSegment
place_pieces at [] = []
place_pieces at (piece ∷ pieces) =
    place_piece at piece ∷ place_pieces (at + length piece + 1) pieces

-- the segments from an offset on; the last one is what stands behind the last terminator
unfoldable pub segments_from : Delims → ℕ → List ℕ → List PlacedSegment
segments_from d at bytes = place_pieces at (slice_split (λ b. b == d.terminator) bytes)
