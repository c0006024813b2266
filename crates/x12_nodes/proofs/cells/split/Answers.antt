-- The last has the second hub's number, or not.
use Rattle.std.proofs.Common.{List, Option, sym, ap, ◌∙◌}
use Rattle.x12_nodes.specs.Cell.{CellView}
use Rattle.x12_nodes.specs.Cells.{split}
use Rattle.x12_nodes.proofs.CellsLemmas.{split_as_listed, split_as_second}
use Rattle.x12_nodes.proofs.cells.split.Goals as goal

abbrev first : List CellView × Option CellView → List CellView
first s = s.0

abbrev last : List CellView × Option CellView → Option CellView
last s = s.1

pub returns-then-node-eq-SECOND_HUB_NODE-clause-listed : goal.returns-then-node-eq-SECOND_HUB_NODE-clause-listed
returns-then-node-eq-SECOND_HUB_NODE-clause-listed g c =
    sym (ap first (ap split c.in-Some.ensures.cases.0 ∙ split_as_second c.in-Some.front.now c.in-Some.last.now (sym c.node.ensures ∙ c.if-node-eq-SECOND_HUB_NODE.true)))

pub returns-then-node-eq-SECOND_HUB_NODE-clause-second : goal.returns-then-node-eq-SECOND_HUB_NODE-clause-second
returns-then-node-eq-SECOND_HUB_NODE-clause-second g c =
    sym (ap last (ap split c.in-Some.ensures.cases.0 ∙ split_as_second c.in-Some.front.now c.in-Some.last.now (sym c.node.ensures ∙ c.if-node-eq-SECOND_HUB_NODE.true)))

pub returns-clause-listed : goal.returns-clause-listed
returns-clause-listed g c =
    c.in-Some.ensures.cases.0 ∙ sym (ap first (ap split c.in-Some.ensures.cases.0 ∙ split_as_listed c.in-Some.front.now c.in-Some.last.now (λ is. c.if-node-eq-SECOND_HUB_NODE.false (c.node.ensures ∙ is))))

pub returns-clause-second : goal.returns-clause-second
returns-clause-second g c =
    sym (ap last (ap split c.in-Some.ensures.cases.0 ∙ split_as_listed c.in-Some.front.now c.in-Some.last.now (λ is. c.if-node-eq-SECOND_HUB_NODE.false (c.node.ensures ∙ is))))
