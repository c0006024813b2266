use Rattle.std.proofs.Common.{ℕ, List, Option, drop, length, ◌++◌, ◌+◌}
use Rattle.x12_hub_records.specs.HubAdopt.{AreDecided, AreDecisions}
use Rattle.x12_hub_records.proofs.decisions.boxed_nodes.Given as goal

abbrev pub invariant-loop-row : goal.invariant-loop-row
invariant-loop-row l =
    ((rest : List (Option ℕ)) → AreDecided (length l.nodes.items + 1) rest (drop l.row-index l.fn.rows) → AreDecided 1 (l.nodes.items ++ rest) l.fn.rows)
    × (AreDecisions 1 l.fn.rows → AreDecisions (length l.nodes.items + 1) (drop l.row-index l.fn.rows))
