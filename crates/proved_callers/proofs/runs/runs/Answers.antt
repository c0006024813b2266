-- What is lost with the power is left of what the run before left.
use Rattle.sqlite.specs.Files.{image_of}
use Rattle.proved_callers.proofs.runs.runs.Goals as goal

pub loop-bytes-preserved : goal.loop-bytes-preserved
loop-bytes-preserved g c = record {
  log = c.lost-files.ensures.log;
  db = c.lost-files.ensures.db;
  left = λ clean. c.in_ok-run.ensures.left (c.lost-files.ensures.clean clean) (image_of g.D.Disk c.lost-files.result) c.lost-files.ensures.left;
}
