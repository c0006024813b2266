-- The segments of an interchange that fits can be written.
use Rattle.std.proofs.Common.{◌≤◌, ◌++◌, length, flat_map, ap, arith, length-append}
use Rattle.x12_envelopes.specs.Segment.{segment_text, text_of}
use Rattle.x12_envelopes.specs.Envelope.{group_segments, isa_segment, iea_segment}
use Rattle.x12_envelopes.specs.WrittenSegments.{SegmentsFit}
use Rattle.x12_envelopes.proofs.WrittenLengthLemmas.{written_is}
use Rattle.x12_envelopes.proofs.HeaderBackLemmas.{fitting}
use Rattle.x12_envelopes.proofs.OutlineBackLemmas.{all_tas, all_groups, groups_short, sets_few, few_segments, joined_all}

pub segments_fit : SegmentsFit
segments_fit x held =
    let f = fitting x held in
    let d = x.delims in
    let groups = flat_map group_segments x.groups in
    let size : length groups ≤ 1048576 =
    omega (arith, f.short, ap length (written_is x), length-append (segment_text d (isa_segment x)) (text_of d x.tas ++ (text_of d groups ++ segment_text d (iea_segment x))), length-append (text_of d x.tas) (text_of d groups ++ segment_text d (iea_segment x)), length-append (text_of d groups) (segment_text d (iea_segment x)), few_segments d groups) in
    joined_all d x.tas groups (all_tas d x.tas f.tas) (all_groups d x.groups f.good f.groups (groups_short x.groups size) (sets_few x.groups size))
