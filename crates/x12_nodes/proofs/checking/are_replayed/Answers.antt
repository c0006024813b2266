-- One cell more is.
use Rattle.std.proofs.Common.{subst}
use Rattle.x12_nodes.specs.Cell.{IsReplayed}
use Rattle.x12_world.proofs.FoundingLemmas.{all_more, all_taken}
use Rattle.x12_nodes.proofs.checking.are_replayed.Goals as goal

pub loop-cell-preserved : goal.loop-cell-preserved
loop-cell-preserved g c =
    all_more IsReplayed c.args.cells.now c.loop-cell.cell-index c.cell-item.result c.loop-cell-test.true c.loop-cell.invariant (subst IsReplayed c.cell-item.is c.log-log.ensures.replayed)

pub returns : goal.returns
returns g c = all_taken IsReplayed c.args.cells.now c.loop-cell.cell-index c.loop-cell-test.false c.loop-cell.invariant
