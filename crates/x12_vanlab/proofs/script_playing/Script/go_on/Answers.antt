use Rattle.x12_vanlab.proofs.ScriptLemmas.{grows_on}
use Rattle.x12_vanlab.proofs.script_playing.Script.go_on.Goals as goal

pub loop-bytes-preserved : goal.loop-bytes-preserved
loop-bytes-preserved g c = grows_on _ _ _ c.loop-bytes.invariant c.print.ensures

pub returns-in_err-print : goal.returns-in_err-print
returns-in_err-print g c = grows_on _ _ _ c.loop-bytes.invariant c.print.ensures
