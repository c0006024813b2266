-- What the tables of a hub's records hold.
use Rattle.std.specs.Prelude.{◌≡◌, ◌≤◌, ◌<◌, ◌^◌, ℕ, pos, List, [], ◌∷◌, map}
use Rattle.std.specs.List.{AllByRecursion, enumerate_from}
use Rattle.sqlite.specs.declared.types.Value.{Value}
use Rattle.sqlite.specs.declared.types.Value.TheVariants.{Null, Int, Blob}
use Rattle.sqlite.specs.Effect.{Database}
use Rattle.sqlite.specs.Order.{Row}
use Rattle.sql_rows.specs.Keyed.{AreRows}
use Rattle.x12_hub.specs.Hub.{Mailbox, Decision, HubOutcome, Boxed, Refused}
use Rattle.x12_hub.specs.Stored.{HubStored, WaitingItem}
use Rattle.x12_tables.specs.Party.{bytes_of_party, IsWideParty}
use Rattle.x12_hub_records.specs.HubSchema.{hub_schema}
use Rattle.x12_hub_records.specs.declared.hub_numbers.HubNumbers.{HubNumbers}

-- Each row is its key, NULL in the key's own column, and the other columns.
-- an entry of the directory
abbrev pub directory_row : Mailbox → Row
directory_row m = Null ∷ Blob (bytes_of_party m.party) ∷ Int (pos m.node) ∷ []

abbrev pub node_value : HubOutcome → Value
node_value (Boxed node item) = Int (pos node)
node_value (Refused reply) = Null

abbrev pub refusal_value : HubOutcome → Value
refusal_value (Boxed node item) = Null
refusal_value (Refused reply) = Blob reply

-- a decision, under its item number
abbrev pub decision_row : Decision → Row
decision_row d = Null ∷ node_value d.outcome ∷ refusal_value d.outcome ∷ Blob d.body ∷ []

-- the node of an item that waits, under the item's number
abbrev pub waiting_row : ℕ → Row
waiting_row node = Null ∷ Int (pos node) ∷ []

-- an item that waits: its number, and its node
abbrev pub waiting_pair : WaitingItem → ℕ × ℕ
waiting_pair w = (w.item, w.node)

-- version 1 of the tables, the hub's party, and the last two numbers
abbrev pub hubnumber_row : HubNumbers → Row
hubnumber_row n =
    Null ∷ Int (pos 1) ∷ Blob (bytes_of_party n.party) ∷ Int (pos n.icn) ∷ Int (pos n.item) ∷ []

-- what the row says of records
abbrev pub hub_numbers_of : HubStored → HubNumbers
hub_numbers_of s = record { party = s.party; icn = s.icn; item = s.item }

-- an entry's node has 16 bits
abbrev pub IsWideEntry : Mailbox → Type 0
IsWideEntry m = IsWideParty m.party × (m.node < 2 ^ 16)

-- so has the node that an item is boxed for
abbrev pub IsWideOutcome : HubOutcome → Type 0
IsWideOutcome (Boxed node item) = node < 2 ^ 16
IsWideOutcome (Refused reply) = Unit {0}

-- the rows are the entries in their order, numbered upwards with no number above the last, which has
-- 32 bits
pub record HoldsDirectory (last : ℕ) (entries : List Mailbox) (rows : List Row) : Type 0 where
  pub at : List (ℕ × Mailbox)
  pub are : AreRows directory_row at rows
  pub within : AllByRecursion (λ x. x.0 ≤ last) at
  pub entries_are : map (λ x. x.1) at ≡ entries
  pub few : last < 2 ^ 32
  pub wide : AllByRecursion IsWideEntry entries

-- the row says these numbers, of which the item's has 32 bits
pub record HoldsHubNumbers (n : HubNumbers) (rows : List Row) : Type 0 where
  pub are : AreRows hubnumber_row ((1, n) ∷ []) rows
  pub party : IsWideParty n.party
  pub few : n.item < 2 ^ 32

-- The tables hold these records: the directory, the decisions under their places from 1, what waits,
-- and one row of numbers.
pub record HasHubTables (last : ℕ) (db : Database) (s : HubStored) : Type 0 where
  pub schema : db.schema ≡ hub_schema
  pub directory : HoldsDirectory last s.directory (db.trees 0)
  pub decisions : AreRows decision_row (enumerate_from 1 s.decisions) (db.trees 2)
  pub boxed : AllByRecursion (λ d. IsWideOutcome d.outcome) s.decisions
  pub waiting : AreRows waiting_row (map waiting_pair s.waiting) (db.trees 4)
  pub numbers : HoldsHubNumbers (hub_numbers_of s) (db.trees 5)
