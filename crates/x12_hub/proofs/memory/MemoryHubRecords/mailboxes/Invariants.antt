-- what was gathered, and what is left, is all that waits
use Rattle.std.proofs.Common.{◌≡◌, ◌++◌, map}
use Rattle.x12_hub.specs.Record.{waiting_view}
use Rattle.x12_hub.specs.Memory.{waiting_under}
use Rattle.x12_hub.proofs.memory.MemoryHubRecords.mailboxes.Given as goal

abbrev pub invariant-loop-item : goal.invariant-loop-item
invariant-loop-item l = map waiting_view l.mailboxes.items ++ map waiting_under l.item-iterator ≡ map waiting_under l.self.waiting.entries
