use Rattle.std.proofs.Common.{◌≡◌, map, drop}
use Rattle.std.specs.List.{list_all}
use Rattle.x12_envelopes.specs.Fitting.{data_is_writable}
use Rattle.x12_envelopes.specs.Envelope.{segment_view}
use Rattle.x12_envelopes.proofs.fitting.are_data_segments.Given as goal

abbrev pub invariant-loop-segment : goal.invariant-loop-segment
invariant-loop-segment l = list_all (data_is_writable l.delims) (map segment_view (drop l.segment-index l.segments)) ≡ list_all (data_is_writable l.delims) (map segment_view l.segments)
