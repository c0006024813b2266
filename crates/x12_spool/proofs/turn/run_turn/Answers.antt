use Rattle.x12_judge.proofs.ListLemmas.{on_ok}
use Rattle.std.proofs.Common.{map}
use Rattle.x12_spool.specs.Deed.{file_view}
use Rattle.x12_profile.proofs.Shelf.{on_err_so}
use Rattle.x12_spool.proofs.TurnLemmas.{takes_listed, stops_listed}
use Rattle.x12_spool.proofs.turn.run_turn.Goals as goal

pub returns-clause-took : goal.returns-clause-took
returns-clause-took g c =
    on_ok c.take_files.result (takes_listed g.N.Node (map file_view c.in_ok-files.files.items) _ _ _ _ _ c.in_ok-files.ensures) (rw c.deref.ensures.value at c.take_files.ensures.took)

pub returns-clause-stopped : goal.returns-clause-stopped
returns-clause-stopped g c =
    on_err_so c.take_files.result (stops_listed g.N.Node (map file_view c.in_ok-files.files.items) _ _ _ _ _ c.in_ok-files.ensures) (rw c.deref.ensures.value at c.take_files.ensures.stopped)
