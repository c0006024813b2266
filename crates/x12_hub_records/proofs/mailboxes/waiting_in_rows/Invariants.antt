-- what was gathered, and what is left, stand for all rows
use Rattle.std.proofs.Common.{◌≡◌, ◌++◌, map, drop}
use Rattle.x12_hub.specs.Record.{waiting_view}
use Rattle.x12_hub_records.specs.HubRead.{waiting_shown}
use Rattle.x12_hub_records.proofs.mailboxes.waiting_in_rows.Given as goal

abbrev pub invariant-loop-row : goal.invariant-loop-row
invariant-loop-row l = map waiting_view l.waiting.items ++ map waiting_shown (drop l.row-index l.rows) ≡ map waiting_shown l.rows
