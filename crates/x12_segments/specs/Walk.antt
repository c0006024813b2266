-- Going over the segments of an interchange, in order (X12.6, data segment).
use Rattle.std.specs.Prelude.{ℕ, List, [], ◌∷◌, ◌==◌}
use Rattle.std.specs.List.{slice_split}
use Rattle.x12_envelopes.specs.Segment.{behind_line_ends}
use Rattle.x12_segments.specs.declared.walk.Walk.{Walk}

-- bytes as one more segment, if there are any
abbrev pub if_any : List ℕ → List (List ℕ)
if_any [] = []
if_any (b ∷ bytes) = (b ∷ bytes) ∷ []

-- pieces between terminators without the line ends in front of each; the last only if any is left of
-- it
abbrev pub shown_pieces : List (List ℕ) → List (List ℕ)
shown_pieces [] = []
shown_pieces (piece ∷ []) = if_any (behind_line_ends piece)
shown_pieces (piece ∷ next ∷ more) = behind_line_ends piece ∷ shown_pieces (next ∷ more)

-- the segments of bytes that are cut at this terminator
unfoldable pub segments_shown : ℕ → List ℕ → List (List ℕ)
segments_shown terminator bytes = shown_pieces (slice_split (λ b. b == terminator) bytes)

-- the bytes that a walk has still to come
abbrev pub bytes_to_show : Walk → List ℕ
bytes_to_show w = w.rest.now

-- the segments that a walk has still to come
abbrev pub segments_to_show : Walk → List (List ℕ)
segments_to_show w = segments_shown w.delims.terminator (bytes_to_show w)
