-- what was gathered, and what is left, stand for all rows
use Rattle.std.proofs.Common.{◌≡◌, ◌++◌, map, drop}
use Rattle.x12_hub.specs.Record.{mailbox_view}
use Rattle.x12_hub_records.specs.HubRead.{entry_shown}
use Rattle.x12_hub_records.proofs.directory.entries_in_rows.Given as goal

abbrev pub invariant-loop-row : goal.invariant-loop-row
invariant-loop-row l = map mailbox_view l.entries.items ++ map entry_shown (drop l.row-index l.rows) ≡ map entry_shown l.rows
