use Rattle.x12_judge.proofs.ListLemmas.{on_ok}
use Rattle.x12_spool.specs.Deed.{file_view}
use Rattle.x12_profile.proofs.Shelf.{on_err_so}
use Rattle.x12_spool.specs.Turn.{IsToRead}
use Rattle.x12_spool.proofs.DeedLemmas.{err_holds}
use Rattle.x12_spool.proofs.TurnLemmas.{stops_unheard, takes_content, stops_content}
use Rattle.x12_spool.proofs.turn.take_file.Goals as goal

pub returns-in_err-free-clause-stopped : goal.returns-in_err-free-clause-stopped
returns-in_err-free-clause-stopped g c = err_holds (stops_unheard g.N.Node (file_view c.args.file.now) _ _ _ c.in_err-free.ensures) _

pub returns-in-Some : goal.returns-in-Some
returns-in-Some g c =
    let f = file_view c.args.file.now in
    let to_read : IsToRead f = λ item. c.in_default.not-Taken item in
    let read = rw (c.deref-2.ensures.value, c.in-Some.is) at c.in_ok-bytes.ensures in
    record {
      took = on_ok c.take_read.result (takes_content g.N.Node f to_read _ _ _ c.in-Some.bytes.items _ _ read) (rw c.deref-in-Some.ensures.value at c.take_read.ensures.took);
      stopped = on_err_so c.take_read.result (stops_content g.N.Node f to_read _ _ _ c.in-Some.bytes.items _ _ read) (rw c.deref-in-Some.ensures.value at c.take_read.ensures.stopped);
    }
