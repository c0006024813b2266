-- What the tables of a hub's records stand for, and what holds between the calls.
use Rattle.std.specs.Prelude.{◌≡◌, ℕ, false, map, IsTrue}
use Rattle.sqlite.specs.declared.types.Value.{Value}
use Rattle.sqlite.specs.declared.types.Value.TheVariants.{Blob}
use Rattle.sqlite.specs.Order.{Row, column}
use Rattle.sqlite.specs.State.{State}
use Rattle.sqlite.specs.Tree.{Trees}
use Rattle.sql_rows.specs.Keyed.{number_in, key_in, by_key}
use Rattle.x12_hub.specs.Hub.{Mailbox, Decision, HubOutcome, Boxed, Refused}
use Rattle.x12_hub.specs.Stored.{HubStored, WaitingItem, IsSoundHub}
use Rattle.x12_tables.specs.First.{first_row}
use Rattle.x12_tables.specs.OneRow.{whole}
use Rattle.x12_tables.specs.Party.{bytes_in, party_in}
use Rattle.x12_hub_records.specs.HubTables.{HasHubTables}
use Rattle.x12_hub_records.specs.declared.hub_numbers.HubNumbers.{HubNumbers}

-- Each row is its key, NULL in the key's own column, and the other columns.
abbrev pub mailbox_in : Row → Mailbox
mailbox_in r = record { party = party_in (bytes_in (column r 2)); node = number_in (column r 3) }

-- an item, the node in its row, and the refusal in its row
abbrev pub outcome_in : ℕ → Value → Value → HubOutcome
outcome_in item node (Blob reply) = Refused reply
outcome_in item node _ = Boxed (number_in node) item

abbrev pub decision_in : Row → Decision
decision_in r = record {
  body = bytes_in (column r 4);
  outcome = outcome_in (key_in r) (column r 2) (column r 3);
}

abbrev pub waiting_in : Row → WaitingItem
waiting_in r = record { node = number_in (column r 2); item = key_in r }

-- what a row of all columns of numbers says
abbrev pub hub_numbers_shown : Row → HubNumbers
hub_numbers_shown r = record {
  party = party_in (bytes_in (column r 2));
  icn = number_in (column r 3);
  item = number_in (column r 4);
}

-- the one row of numbers
abbrev pub hub_numbers_in : Row → HubNumbers
hub_numbers_in r = hub_numbers_shown (whole r)

-- what the tables stand for: each one's rows by rising key
abbrev pub hub_content_of : Trees → HubStored
hub_content_of db = record {
  party = (hub_numbers_in (first_row (db 5))).party;
  directory = map mailbox_in (by_key (db 0));
  decisions = map decision_in (by_key (db 2));
  waiting = map waiting_in (by_key (db 4));
  icn = (hub_numbers_in (first_row (db 5))).icn;
  item = (hub_numbers_in (first_row (db 5))).item;
}

-- Between the calls no transaction is open; and while the store is, what is seen is committed, and is
-- the tables of sound records, with no entry's number above the last.
pub record IsValidHub (last : ℕ) (s : State) : Type 0 where
  pub outside : s.in_transaction ≡ false
  pub settled : IsTrue s.is_open → s.now ≡ s.committed
  pub holds : IsTrue s.is_open → HasHubTables last s.now (hub_content_of s.now.trees)
  pub sound : IsTrue s.is_open → IsSoundHub (hub_content_of s.now.trees)

-- what may be held after a crash at this moment
abbrev pub MayHoldHub : State → HubStored → Type 0
MayHoldHub s d = (db : Trees) × s.may_leave db × (d ≡ hub_content_of db)
