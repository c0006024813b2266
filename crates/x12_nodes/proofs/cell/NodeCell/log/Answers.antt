-- The invariant says so.
use Rattle.std.proofs.Common.{subst}
use Rattle.x12_nodes.specs.Cell.{IsReplayed}
use Rattle.x12_nodes.proofs.cell.NodeCell.log.Goals as goal

pub returns-clause-replayed : goal.returns-clause-replayed
returns-clause-replayed g c = subst IsReplayed c.self.view_is c.self.invariant
