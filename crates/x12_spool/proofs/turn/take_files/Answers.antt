use Rattle.std.proofs.Common.{sym}
use Rattle.x12_spool.proofs.DeedLemmas.{err_holds}
use Rattle.x12_spool.proofs.TurnLemmas.{files_on, files_stop}
use Rattle.x12_spool.proofs.turn.take_files.Goals as goal

pub returns-in_err-take_file-clause-stopped : goal.returns-in_err-take_file-clause-stopped
returns-in_err-take_file-clause-stopped g c =
    err_holds (files_stop g.N.Node c.args.files.now c.loop-file.file-index c.file-item.result (sym c.file-item.is) c.loop-file-test.true _ _ _ _ _ _
    c.loop-file.invariant c.in_err-take_file.ensures.stopped) _

pub loop-file-preserved : goal.loop-file-preserved
loop-file-preserved g c =
    files_on g.N.Node c.args.files.now c.loop-file.file-index c.file-item.result (sym c.file-item.is) c.loop-file-test.true _ _ _ _ _ _
    c.loop-file.invariant c.in_ok-take_file.ensures.took
