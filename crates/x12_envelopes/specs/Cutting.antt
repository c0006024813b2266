-- The segments of a transaction set, one after the other.
use Rattle.std.specs.Prelude.{ℕ, List, map}
use Rattle.x12_envelopes.specs.declared.delimiters.Delims.{Delims}
use Rattle.x12_envelopes.specs.declared.segment.Segment.{Segment}
use Rattle.x12_envelopes.specs.declared.cutting.Segments.{Segments}
use Rattle.x12_envelopes.specs.Segment.{parts_of}

-- the bytes of a segment, and the delimiters of its interchange
pub record DelimitedSegment : Type 0 where
  pub delims : Delims
  pub bytes : List ℕ

-- bytes under these delimiters
abbrev pub delimited : Delims → List ℕ → DelimitedSegment
delimited d part = record { delims = d; bytes = part }

-- what was read
abbrev pub delimited_view : Segment → DelimitedSegment
delimited_view s = delimited s.delims s.bytes.now

-- the segments that are still to come
abbrev pub segments_left : Segments → List DelimitedSegment
segments_left it = map (delimited it.delims) (parts_of it.delims it.bytes.now)
