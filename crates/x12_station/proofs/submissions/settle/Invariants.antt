-- what is left settles what was settled so far as all settle what there was
use Rattle.std.proofs.Common.{◌≡◌, drop, map}
use Rattle.x12_outbound.specs.Settling.{target_view}
use Rattle.x12_station.specs.Memory.{numbered_row, numbered_settled_by, RowsRise}
use Rattle.x12_station.proofs.submissions.settle.Given as goal

abbrev pub invariant-loop-key : goal.invariant-loop-key
invariant-loop-key l = record {
  rest : map (numbered_settled_by (map target_view (drop l.key-index l.settled))) (map numbered_row l.rows)
      ≡ map (numbered_settled_by (map target_view l.settled)) (map numbered_row l.initial.rows);
  rise : RowsRise (map numbered_row l.rows);
}
