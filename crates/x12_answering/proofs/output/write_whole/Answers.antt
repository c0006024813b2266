use Rattle.x12_answering.proofs.OutputLemmas.{leaves_on, leaves_same}
use Rattle.x12_answering.proofs.output.write_whole.Goals as goal
use Rattle.x12_answering.proofs.output.write_whole.Goals.{in-Ok, in-Err}

pub loop-preserved : goal.loop-preserved
loop-preserved g c = elim c.match-write.branch [
  | in-Ok w ↦ rw (w.rest-is, w.split_at.ensures.back) (leaves_on _ _ _ _ _ w.in-Ok.count c.loop.invariant w.in-Ok.ensures.bytes)
  | in-Err w ↦ rw w.rest-is (leaves_same _ _ _ _ _ c.loop.invariant w.in-Err.ensures.bytes)
]
