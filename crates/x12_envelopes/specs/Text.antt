-- Texts of a list of segments (X12.6): what may arrive, and what is written.
use Rattle.std.specs.Prelude.{◌≡◌, ℕ, true, ◌&&◌, not, ◌==◌, List, [], ◌∷◌, ◌++◌, replicate, map}
use Rattle.std.specs.List.{list_all}
use Rattle.x12_envelopes.specs.declared.delimiters.Delims.{Delims}
use Rattle.x12_envelopes.specs.Byte.{byte_is_line_end}
use Rattle.x12_envelopes.specs.Delimiters.{bytes_are_delimiters}
use Rattle.x12_envelopes.specs.Segment.{Segment, text_of, parts_of, elements_of}
use Rattle.x12_envelopes.specs.Fitting.{segment_is_writable, joined}

-- a segment in front of the rest: its elements joined by the element separator, any number of
-- further element separators, the terminator, any run of CR and LF that aren't the terminator
pub record IsSegmentText (d : Delims) (s : Segment) (bytes rest : List ℕ) : Type 0 where
  pub separators : ℕ
  pub line_ends : List ℕ
  pub run : list_all (λ b. byte_is_line_end b && not (b == d.terminator)) line_ends ≡ true
  pub text :
      bytes ≡ joined d s ++ (replicate separators d.element ++ d.terminator ∷ (line_ends ++ rest))

-- bytes are a text of these segments
abbrev pub IsTextOf : Delims → List Segment → List ℕ → Type 0
IsTextOf d [] bytes = bytes ≡ []
IsTextOf d (s ∷ segments) bytes =
    (rest : List ℕ) × (IsSegmentText d s bytes rest × IsTextOf d segments rest)

-- the written text of segments is a text of them
abbrev pub WrittenIsText : Type 0
WrittenIsText =
    (d : Delims) (segments : List Segment) → list_all (segment_is_writable d) segments ≡ true
    → IsTextOf d segments (text_of d segments)

-- the segments are read back from each of their texts
abbrev pub TextReadBack : Type 0
TextReadBack =
    (d : Delims) (segments : List Segment) (bytes : List ℕ) → bytes_are_delimiters d ≡ true
    → list_all (segment_is_writable d) segments ≡ true → IsTextOf d segments bytes
    → map (elements_of d) (parts_of d bytes) ≡ segments
