use Rattle.std.proofs.Common.{ℕ, drop}
use Rattle.x12_hub_records.specs.HubAdopt.{AreEntries}
use Rattle.x12_hub_records.proofs.directory.last_entry.Given as goal

abbrev pub invariant-loop-row : goal.invariant-loop-row
invariant-loop-row l =
    ((end : ℕ) → AreEntries l.last end (drop l.row-index l.fn.rows) → AreEntries 0 end l.fn.rows)
    × ((end : ℕ) → AreEntries 0 end l.fn.rows → AreEntries l.last end (drop l.row-index l.fn.rows))
