-- One set more is settled, and then all.
use Rattle.std.proofs.Common.{map}
use Rattle.x12_station.specs.Memory.{numbered_row}
use Rattle.x12_station.proofs.SubmissionLemmas.{settled_step, settled_end, rise_next}
use Rattle.x12_station.proofs.submissions.settle.Goals as goal

pub loop-key-preserved : goal.loop-key-preserved
loop-key-preserved c = record {
  rest = settled_step c.args.settled.now c.loop-key.key-index _ (map numbered_row c.loop-key.rows) (map numbered_row c.settle_row.new.rows) _ c.loop-key-test.true c.settle_row.ensures c.loop-key.invariant.rest;
  rise = rise_next c.args.settled.now c.loop-key.key-index _ (map numbered_row c.loop-key.rows) (map numbered_row c.settle_row.new.rows) c.settle_row.ensures c.loop-key.invariant.rise;
}

pub returns : goal.returns
returns c = settled_end c.args.settled.now c.loop-key.key-index (map numbered_row c.loop-key.rows) _ c.loop-key-test.false c.loop-key.invariant.rest
