-- A transmission: interchanges one behind the other, with line ends between them (X12.5).
use Rattle.std.specs.Prelude.{◌≡◌, ◌<◌, ◌≤◌, ℕ, ◌+◌, ◌-◌, Bool, true, false, ◌&&◌, ◌||◌, List, []}
use Rattle.std.specs.Prelude.{◌∷◌, length, take, drop, Option, Some, None, option_map, unwrap_or, if◌then◌else◌, ◌==◌}
use Rattle.std.specs.Prelude.{nat_le, codes, bytes_eq}
use Rattle.std.specs.List.{slice_split}
use Rattle.x12_envelopes.specs.declared.delimiters.Delims.{Delims}
use Rattle.x12_envelopes.specs.Segment.{behind_line_ends, element_of}
use Rattle.x12_envelopes.specs.Header.{delimiters_of}

-- the bytes of an interchange trailer: a segment whose identifier is IEA
unfoldable pub segment_is_trailer : Delims → List ℕ → Bool
segment_is_trailer d part = bytes_eq (element_of d part 0) (codes "IEA")

-- bytes that begin with the identifier IEA, and with what ends an identifier
abbrev pub names_trailer : Delims → List ℕ → Bool
names_trailer d (i ∷ e ∷ a ∷ end ∷ more) =
    bytes_eq (i ∷ e ∷ a ∷ []) (codes "IEA") && (end == d.element || end == d.terminator)
names_trailer d bytes = false

-- such bytes stand at a place
abbrev pub NamesTrailer : Delims → List ℕ → ℕ → Type 0
NamesTrailer d bytes k = names_trailer d (drop k bytes) ≡ true

-- of bytes cut at the terminators: how many there are through the terminator of the first IEA
unfoldable pub length_through_trailer : Delims → List (List ℕ) → Option ℕ
length_through_trailer d [] = None
length_through_trailer d (last ∷ []) = None
length_through_trailer d (piece ∷ next ∷ pieces) =
    if segment_is_trailer d (behind_line_ends piece) then Some (length piece + 1)
    else option_map (λ n. length piece + 1 + n) (length_through_trailer d (next ∷ pieces))

-- a rest of bytes: in front of it stand whole segments, and none of them is a trailer
pub record SkipsOthers (d : Delims) (bytes rest : List ℕ) : Type 0 where
  pub shorter : length rest ≤ length bytes
  pub way :
      length_through_trailer d (slice_split (λ b. b == d.terminator) bytes)
      ≡ option_map (λ n. length bytes - length rest + n)
      (length_through_trailer d (slice_split (λ b. b == d.terminator) rest))

-- bytes that begin an interchange: at least the 106 bytes of a header, ISA in front
abbrev pub begins_interchange : List ℕ → Bool
begins_interchange text = nat_le 106 (length text) && bytes_eq (take 3 text) (codes "ISA")

-- how many bytes the first slice takes: through IEA by the slice's own delimiters, and else all
unfoldable pub length_of_first : List ℕ → ℕ
length_of_first text =
    if begins_interchange text then
    unwrap_or
    (option_map (λ n. 106 + n)
    (length_through_trailer (delimiters_of text)
    (slice_split (λ b. b == (delimiters_of text).terminator) (drop 106 text))))
    (length text)
    else length text

-- the slice that a text begins with, and the bytes behind it
pub record IsFirst (text slice behind : List ℕ) : Type 0 where
  pub some : 0 < length text
  pub takes : slice ≡ take (length_of_first text) text
  pub leaves : behind ≡ drop (length_of_first text) text

-- the slices of a transmission, one behind the other: line ends in front of each are skipped
abbrev pub AreSlices : List (List ℕ) → List ℕ → Type 0
AreSlices [] bytes = behind_line_ends bytes ≡ []
AreSlices (slice ∷ slices) bytes =
    (behind : List ℕ) × (IsFirst (behind_line_ends bytes) slice behind × AreSlices slices behind)
