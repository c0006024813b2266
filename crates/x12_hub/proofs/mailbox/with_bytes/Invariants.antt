-- what was found, and what is left, are all items with their bytes
use Rattle.std.proofs.Common.{◌≡◌, ◌≤◌, ◌++◌, map, drop, IsTrue}
use Rattle.std.specs.Prelude.{length}
use Rattle.x12_hub.specs.Mailbox.{item_view, with_bytes}
use Rattle.x12_hub.specs.Standing.{HubWereAsked}
use Rattle.x12_hub.proofs.mailbox.with_bytes.Given as goal

abbrev pub invariant-loop-item : goal.invariant-loop-item
invariant-loop-item g l = record {
  asked : HubWereAsked g.H.HubRecords l.initial.records l.records;
  failed : g.H.HubRecords.failed l.records ≡ g.H.HubRecords.failed l.initial.records;
  items : IsTrue (g.H.HubRecords.answers l.records) → map item_view l.found.items ++ with_bytes (g.H.HubRecords.content l.initial.records).decisions (drop l.item-index l.items) ≡ with_bytes (g.H.HubRecords.content l.initial.records).decisions l.items;
  bounded : length l.found.items ≤ l.item-index;
  answered : IsTrue (g.H.HubRecords.clean l.records) → IsTrue (g.H.HubRecords.answers l.initial.records) → IsTrue (g.H.HubRecords.answers l.records);
}
