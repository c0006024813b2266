use Rattle.x12_spool.proofs.DeedLemmas.{err_holds}
use Rattle.x12_spool.proofs.TurnLemmas.{takes_on, stops_at}
use Rattle.x12_spool.proofs.turn.take_all.Goals as goal

pub returns-in_err-any-clause-stopped : goal.returns-in_err-any-clause-stopped
returns-in_err-any-clause-stopped g c =
    err_holds (stops_at g.N.Node c.args.name.now c.args.interchanges.now c.loop-bytes.bytes-index _ c.loop-bytes-test.true _ _ _ _ _ _ _
    c.loop-bytes.invariant c.in_err-any.ensures.stopped c.in_err-any.ensures.undone) _

pub loop-bytes-preserved : goal.loop-bytes-preserved
loop-bytes-preserved g c =
    takes_on g.N.Node c.args.name.now c.args.interchanges.now c.loop-bytes.bytes-index _ c.loop-bytes-test.true _ _ _ _ _ _ _ _
    c.loop-bytes.invariant c.in_ok-any.ensures.took
