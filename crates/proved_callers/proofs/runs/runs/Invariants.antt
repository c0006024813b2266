-- the files that the next run is opened over
use Rattle.std.proofs.Common.{IsTrue}
use Rattle.proved_callers.specs.Stop.{MayOpen}
use Rattle.proved_callers.proofs.runs.runs.Given as goal

abbrev pub invariant-loop-bytes : goal.invariant-loop-bytes
invariant-loop-bytes g l = record {
  log : IsTrue (g.D.Disk.is_usable l.files.log);
  db : IsTrue (g.D.Disk.is_usable l.files.db);
  left : MayOpen g.D.Disk l.files;
}
