-- The segments of an interchange that fits (X12.6).
use Rattle.std.specs.Prelude.{◌≡◌, true, ◌++◌, flat_map}
use Rattle.std.specs.List.{list_all}
use Rattle.x12_envelopes.specs.Envelope.{WrittenInterchange, group_segments}
use Rattle.x12_envelopes.specs.Fitting.{segment_is_writable, interchange_fits}

-- each of its TA1s, and each segment of its groups, GS, GE and SE included, can be written
abbrev pub SegmentsFit : Type 0
SegmentsFit =
    (x : WrittenInterchange) → interchange_fits x ≡ true →
    list_all (segment_is_writable x.delims) (x.tas ++ flat_map group_segments x.groups) ≡ true
