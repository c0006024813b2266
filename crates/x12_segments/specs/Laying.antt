-- The segments of a transmission alone: each on a line, or all in one.
use Rattle.std.specs.Prelude.{◌≡◌, ℕ, Bool, true, false, List, Option, Some, None, Result, Ok, Err, flat_map, slice_index, if◌then◌else◌}
use Rattle.std.specs.List.{list_all}
use Rattle.std.specs.Io.KnownBytes.{Appends}
use Rattle.x12_envelopes.specs.declared.header.Header.{Header}
use Rattle.x12_envelopes.specs.declared.header.HeaderFault.{HeaderFault}
use Rattle.x12_envelopes.specs.Header.{header_of}
use Rattle.x12_envelopes.specs.Transmission.{begins_interchange, AreSlices}
use Rattle.x12_segments.specs.declared.laying.Layout.{Layout}
use Rattle.x12_segments.specs.declared.laying.Layout.TheVariants.{Plain, Joined}
use Rattle.x12_segments.specs.Plain.{plain, text_without_line_ends}

-- the byte at offset 105 of bytes that begin an interchange
abbrev pub terminator_of : List ℕ → Option ℕ
terminator_of bytes = if begins_interchange bytes then Some (slice_index bytes 105) else None

-- the segments in a layout by their terminator; what isn't an interchange stays as it is
abbrev pub laid_by : Layout → List ℕ → Option ℕ → List ℕ
laid_by Plain bytes (Some terminator) = plain terminator bytes
laid_by Joined bytes (Some terminator) = text_without_line_ends terminator bytes
laid_by layout bytes None = bytes

unfoldable pub laid : Layout → List ℕ → List ℕ
laid layout bytes = laid_by layout bytes (terminator_of bytes)

abbrev pub header_is_read : Result Header HeaderFault → Bool
header_is_read (Ok h) = true
header_is_read (Err fault) = false

-- a header can be read
abbrev pub header_can_be_read : List ℕ → Bool
header_can_be_read bytes = header_is_read (header_of bytes)

-- a transmission is written in a layout: each of its interchanges in order, appended to what a writer
-- held; the answer is whether each header can be read
pub record IsLaid (layout : Layout) (input : List ℕ) (out new_out : Option (List ℕ)) (right : Bool)
    : Type 0 where
  pub interchanges : List (List ℕ)
  pub cut : AreSlices interchanges input
  pub written : Appends out new_out (flat_map (laid layout) interchanges)
  pub headers : right ≡ list_all header_can_be_read interchanges
