-- The segments of an interchange, one a line, and taken back into one line (X12.6, data segment).
use Rattle.std.specs.Prelude.{◌≡◌, ℕ, List, [], ◌∷◌, ◌++◌, flat_map, ◌==◌, if◌then◌else◌}
use Rattle.std.specs.List.{slice_split}
use Rattle.x12_envelopes.specs.Segment.{behind_line_ends}

-- pieces without the line ends in front of each, with these bytes between one and the next
abbrev pub spelled_pieces : List ℕ → List (List ℕ) → List ℕ
spelled_pieces between [] = []
spelled_pieces between (piece ∷ pieces) =
    behind_line_ends piece ++ flat_map (λ p. between ++ behind_line_ends p) pieces

-- bytes cut at this terminator, and put together again with these bytes in its place
unfoldable pub spelled : List ℕ → ℕ → List ℕ → List ℕ
spelled between terminator bytes =
    spelled_pieces between (slice_split (λ b. b == terminator) bytes)

-- a line feed, where the terminator isn't one
abbrev pub new_line : ℕ → List ℕ
new_line terminator = if terminator == 10 then [] else 10 ∷ []

-- each segment on a line: its bytes, the terminator, and a line feed
abbrev pub plain : ℕ → List ℕ → List ℕ
plain terminator bytes = spelled (terminator ∷ new_line terminator) terminator bytes

-- the bytes without the line ends in front of segments
abbrev pub text_without_line_ends : ℕ → List ℕ → List ℕ
text_without_line_ends terminator bytes = spelled (terminator ∷ []) terminator bytes

-- The law: joining the lines of an interchange gives it without its line ends.
abbrev pub LinesAreJoined : Type 0
LinesAreJoined =
    (terminator : ℕ) → (bytes : List ℕ) → text_without_line_ends terminator (plain terminator bytes)
    ≡ text_without_line_ends terminator bytes
