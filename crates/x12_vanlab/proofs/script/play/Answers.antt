use Rattle.x12_vanlab.proofs.ScriptLemmas.{grows_on, grows_front, grows_moved, ends_at_bad_line}
use Rattle.x12_vanlab.proofs.script.play.Goals as goal

pub returns-in_err-write_last-in-Ok-clause-printed : goal.returns-in_err-write_last-in-Ok-clause-printed
returns-in_err-write_last-in-Ok-clause-printed g c =
    grows_on _ _ _ c.run.ensures (grows_front _ _ _ c.in_err-write_last-in-Ok.ensures.front)

pub returns-in_ok-write_last-in-Ok-clause-printed : goal.returns-in_ok-write_last-in-Ok-clause-printed
returns-in_ok-write_last-in-Ok-clause-printed g c = grows_on _ _ _ c.run.ensures (grows_moved _ _ _ _ c.in_ok-write_last-in-Ok.ensures.moves)

pub returns-in_err-tell_bad_line-in-Err-BadLine-clause-printed : goal.returns-in_err-tell_bad_line-in-Err-BadLine-clause-printed
returns-in_err-tell_bad_line-in-Err-BadLine-clause-printed g c = grows_on _ _ _ c.run.ensures c.tell_bad_line.ensures.printed

pub returns-in_ok-tell_bad_line-in-Err-BadLine-clause-bad_line : goal.returns-in_ok-tell_bad_line-in-Err-BadLine-clause-bad_line
returns-in_ok-tell_bad_line-in-Err-BadLine-clause-bad_line g c = λ _.
    let told = c.in_ok-tell_bad_line-in-Err-BadLine.ensures in
    ends_at_bad_line _ _ _ _ _ _ _ c.run.ensures told.told told.explained

pub returns-in_ok-tell_bad_line-in-Err-BadLine-clause-printed : goal.returns-in_ok-tell_bad_line-in-Err-BadLine-clause-printed
returns-in_ok-tell_bad_line-in-Err-BadLine-clause-printed g c = grows_on _ _ _ c.run.ensures c.tell_bad_line.ensures.printed
