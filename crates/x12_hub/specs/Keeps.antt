-- What a hub keeps in memory is what it loads of its records.
use Rattle.std.specs.Prelude.{◌≡◌, map}
use Rattle.x12_hub.specs.declared.cached.Cached.{Cached}
use Rattle.x12_hub.specs.HubView.{HubMemory}
use Rattle.x12_hub.specs.Record.{HubStart, mailbox_view, waiting_view}
use Rattle.x12_hub.specs.Mailbox.{HoldsWaiting}

-- what is in memory, as it is seen
abbrev pub memory_of_hub : Cached → HubMemory
memory_of_hub k = record {
  icn = k.icn;
  item = k.item;
  directory = map mailbox_view k.directory.items;
  waiting = map waiting_view k.mailboxes.keys;
}

-- and it is what these records give
pub record HubCaches (k : Cached) (l : HubStart) : Type 0 where
  pub icn : k.icn ≡ l.icn
  pub item : k.item ≡ l.item
  pub directory : map mailbox_view k.directory.items ≡ l.directory
  pub waiting : HoldsWaiting k.mailboxes l.waiting
