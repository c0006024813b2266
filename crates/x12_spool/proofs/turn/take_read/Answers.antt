use Rattle.std.proofs.Common.{inl, inr}
use Rattle.x12_envelopes.specs.Writing.{texts}
use Rattle.x12_spool.specs.Deed.{file_view}
use Rattle.x12_spool.proofs.DeedLemmas.{err_holds}
use Rattle.x12_spool.proofs.TurnLemmas.{stops_some, stops_all, stops_late, stops_last, takes_whole}
use Rattle.x12_spool.proofs.turn.take_read.Goals as goal

pub returns-in_err-any-clause-stopped : goal.returns-in_err-any-clause-stopped
returns-in_err-any-clause-stopped g c =
    err_holds (stops_some g.N.Node (file_view c.args.file.now) c.args.bytes.now (texts c.in_ok-interchanges.interchanges.items) c.in_ok-interchanges.ensures.slices _ _ _ _
    (rw (c.deref.ensures.value, c.deref-2.ensures.value) at c.in_err-any.ensures.stopped)) _

pub returns-in_err-confirm_taken-clause-stopped : goal.returns-in_err-confirm_taken-clause-stopped
returns-in_err-confirm_taken-clause-stopped g c =
    err_holds (stops_all g.N.Node (file_view c.args.file.now) c.args.bytes.now (texts c.in_ok-interchanges.interchanges.items) c.in_ok-interchanges.ensures.slices _ _ _ _ _ _
    (rw (c.deref.ensures.value, c.deref-2.ensures.value) at c.in_ok-any.ensures.took) c.in_err-confirm_taken.ensures.unsent) _

pub returns-in_err-remove-clause-stopped : goal.returns-in_err-remove-clause-stopped
returns-in_err-remove-clause-stopped g c =
    let f = file_view c.args.file.now in
    let bs = texts c.in_ok-interchanges.interchanges.items in
    let cut = c.in_ok-interchanges.ensures.slices in
    let did = rw (c.deref.ensures.value, c.deref-2.ensures.value) at c.in_ok-any.ensures.took in
    err_holds (elim c.in_err-remove.ensures.unsure [
      | inl same ↦ stops_late g.N.Node f c.args.bytes.now bs cut _ _ _ _ _ _ _ did c.in_ok-confirm_taken.ensures.sent same
      | inr gone ↦ stops_last g.N.Node f c.args.bytes.now bs cut _ _ _ _
          (takes_whole g.N.Node f c.args.bytes.now bs cut _ _ _ _ _ _ _ did c.in_ok-confirm_taken.ensures.sent (rw c.deref-3.ensures.value at gone))
    ]) _

pub returns-clause-took : goal.returns-clause-took
returns-clause-took g c =
    takes_whole g.N.Node (file_view c.args.file.now) c.args.bytes.now (texts c.in_ok-interchanges.interchanges.items) c.in_ok-interchanges.ensures.slices _ _ _ _ _ _ _
    (rw (c.deref.ensures.value, c.deref-2.ensures.value) at c.in_ok-any.ensures.took) c.in_ok-confirm_taken.ensures.sent (rw c.deref-3.ensures.value at c.in_ok-remove.ensures.gone)
