-- What records in memory hold.
use Rattle.std.specs.Prelude.{ℕ, map, Vec}
use Rattle.std.specs.Global.{Global}
use Rattle.x12_hub.specs.declared.decision.Decision.{Decision as CodeDecision}
use Rattle.x12_hub.specs.declared.memory.MemoryHubRecords.{MemoryHubRecords}
use Rattle.x12_hub.specs.Hub.{Decision}
use Rattle.x12_hub.specs.Stored.{HubStored, WaitingItem}
use Rattle.x12_hub.specs.Record.{decision_view, mailbox_view}

-- a decision under its bytes
abbrev pub decided_view : Vec ℕ Global × CodeDecision → Decision
decided_view e = record { body = e.0.items; outcome = decision_view e.1 }

-- an item that waits, under its number
abbrev pub waiting_under : ℕ × ℕ → WaitingItem
waiting_under e = record { node = e.1; item = e.0 }

abbrev pub hub_memory_view : MemoryHubRecords → HubStored
hub_memory_view r = record {
  party = r.party;
  directory = map mailbox_view r.directory.items;
  decisions = map decided_view r.decisions.entries;
  waiting = map waiting_under r.waiting.entries;
  icn = r.icn;
  item = r.item;
}
