use Rattle.std.proofs.Common.{drop}
use Rattle.x12_hub_records.specs.HubAdopt.{AreWaiting}
use Rattle.x12_hub_records.proofs.mailboxes.test_waiting.Given as goal

abbrev pub invariant-loop-row : goal.invariant-loop-row
invariant-loop-row l =
    (AreWaiting l.fn.boxed l.last (drop l.row-index l.fn.rows) → AreWaiting l.fn.boxed 0 l.fn.rows)
    × (AreWaiting l.fn.boxed 0 l.fn.rows → AreWaiting l.fn.boxed l.last (drop l.row-index l.fn.rows))
