-- The rows of a hub's tables, as they are read before records are taken over, and what they tell.
use Rattle.std.specs.Prelude.{◌≡◌, ◌<◌, ◌+◌, ◌-◌, ◌^◌, ℕ, pos, List, [], ◌∷◌, map, length, slice_get, false, Option, None, Some, IsTrue}
use Rattle.std.specs.List.{AllByRecursion, enumerate_from}
use Rattle.sqlite.specs.declared.types.Value.TheVariants.{Null, Int, Blob}
use Rattle.sqlite.specs.Effect.{Database}
use Rattle.sqlite.specs.Order.{Row, column}
use Rattle.sqlite.specs.State.{State}
use Rattle.sqlite.specs.Tree.{Trees}
use Rattle.x12_envelopes.specs.declared.party.Party.{Party}
use Rattle.sql_rows.specs.Keyed.{with_id, AreRows}
use Rattle.x12_hub.specs.DecidesOnce.{AreOnce}
use Rattle.x12_hub.specs.Hub.{Decision, HubOutcome, Boxed, Refused}
use Rattle.x12_hub.specs.Stored.{WaitingItem, HaveItemNumbers, AreRising, AllWaitRightly, IsSoundHub, count_of_refusals}
use Rattle.x12_tables.specs.Adopt.{IsAtRest}
use Rattle.x12_tables.specs.OneRow.{whole, IsOneRow}
use Rattle.x12_tables.specs.Party.{IsWideParty}
use Rattle.x12_hub_records.specs.HubContent.{hub_content_of}
use Rattle.x12_hub_records.specs.HubSchema.{hub_schema}
use Rattle.x12_hub_records.specs.HubTables.{hubnumber_row, decision_row, IsWideOutcome, waiting_row, waiting_pair, HoldsHubNumbers, HoldsDirectory, HasHubTables, hub_numbers_of}
use Rattle.x12_hub_records.specs.declared.hub_numbers.HubNumbers.{HubNumbers}

-- a row of a number, a party and a node: the number is above the last and has 32 bits, the party has
-- 17 bytes, and the node 16 bits
pub record IsEntry (last at : ℕ) (r : Row) : Type 0 where
  pub above : last < at
  pub at_is : column r 0 ≡ Int (pos at)
  pub bytes : List ℕ
  pub party_is : column r 1 ≡ Blob bytes
  pub width : length bytes ≡ 17
  pub node : ℕ
  pub node_is : column r 2 ≡ Int (pos node)
  pub narrow : (at < 2 ^ 32) × (node < 2 ^ 16)

-- the numbers of entries rise, from above the first to the second
abbrev pub AreEntries : ℕ → ℕ → List Row → Type 0
AreEntries last end [] = last ≡ end
AreEntries last end (r ∷ rows) = (at : ℕ) × IsEntry last at r × AreEntries at end rows

-- a row of an item, a node, and 1 where no refusal was written: there is the one or the other
abbrev pub IsDecided : ℕ → Option ℕ → Row → Type 0
IsDecided item (Some node) r =
    (column r 0 ≡ Int (pos item)) × (column r 1 ≡ Int (pos node)) × (column r 2 ≡ Int (pos 1))
    × (item < 2 ^ 32) × (node < 2 ^ 16)
IsDecided item None r =
    (column r 0 ≡ Int (pos item)) × (column r 1 ≡ Null) × (column r 2 ≡ Int (pos 0))
    × (item < 2 ^ 32)

-- decisions by item number, each the next one
abbrev pub AreDecided : ℕ → List (Option ℕ) → List Row → Type 0
AreDecided item [] [] = Unit {0}
AreDecided item (o ∷ os) (r ∷ rows) = IsDecided item o r × AreDecided (item + 1) os rows
AreDecided item _ _ = ⊥

-- each row is that of a decision, by item number, each the next one
abbrev pub AreDecisions : ℕ → List Row → Type 0
AreDecisions item [] = Unit {0}
AreDecisions item (r ∷ rows) =
    ((o : Option ℕ) × IsDecided item o r) × AreDecisions (item + 1) rows

-- a row of an item that waits and its node: the item was boxed for that node
pub record IsWaiting (boxed : List (Option ℕ)) (last item : ℕ) (r : Row) : Type 0 where
  pub above : last < item
  pub item_is : column r 0 ≡ Int (pos item)
  pub node : ℕ
  pub node_is : column r 1 ≡ Int (pos node)
  pub narrow : (item < 2 ^ 32) × (node < 2 ^ 16)
  pub boxed_so : slice_get boxed (item - 1) ≡ Some (Some node)

-- what waits rises by its item number
abbrev pub AreWaiting : List (Option ℕ) → ℕ → List Row → Type 0
AreWaiting boxed last [] = Unit {0}
AreWaiting boxed last (r ∷ rows) =
    (item : ℕ) × IsWaiting boxed last item r × AreWaiting boxed item rows

-- there is one row, of all columns of these numbers
pub record AreNumbers (n : HubNumbers) (rows : List Row) : Type 0 where
  pub row : IsOneRow (whole (with_id hubnumber_row (1, n))) rows
  pub party : IsWideParty n.party
  pub narrow : (n.icn < 2 ^ 32) × (n.item < 2 ^ 32)

-- the node that a decision boxes for, if it isn't a refusal
abbrev pub node_boxed : HubOutcome → Option ℕ
node_boxed (Boxed node item) = Some node
node_boxed (Refused reply) = None

abbrev pub boxed_for : Decision → Option ℕ
boxed_for d = node_boxed d.outcome

-- The trees hold these decisions, no bytes twice, and they box for these nodes.
pub record HasDecided (nodes : List (Option ℕ)) (db : Trees) (ds : List Decision) : Type 0 where
  pub rows : AreRows decision_row (enumerate_from 1 ds) (db 2)
  pub once : AreOnce ds
  pub numbered : HaveItemNumbers 1 ds
  pub boxed : map boxed_for ds ≡ nodes
  pub wide : AllByRecursion (λ d. IsWideOutcome d.outcome) ds

-- an item was boxed for the node that it waits for
abbrev pub IsBoxedSo : List (Option ℕ) → WaitingItem → Type 0
IsBoxedSo boxed w = (0 < w.item) × (slice_get boxed (w.item - 1) ≡ Some (Some w.node))

-- The trees hold what waits, which was boxed so.
pub record HasWaiting (boxed : List (Option ℕ)) (db : Trees) (ws : List WaitingItem) : Type 0 where
  pub rows : AreRows waiting_row (map waiting_pair ws) (db 4)
  pub rising : AreRising 0 ws
  pub boxed_so : AllByRecursion (IsBoxedSo boxed) ws

-- What calls find of a database, each by the content that its tables stand for.
-- the last numbers
pub record FindsHubNumbers (db : Database) (n : HubNumbers) : Type 0 where
  pub schema_is : db.schema ≡ hub_schema
  pub holds : HoldsHubNumbers n (db.trees 5)

-- the same, of the hub of this party
abbrev pub FindsOwnHub : Party → Database → HubNumbers → Type 0
FindsOwnHub party db n = FindsHubNumbers db n × (n.party ≡ party)

abbrev pub FindsEntries : Database → ℕ → Type 0
FindsEntries db last = HoldsDirectory last (hub_content_of db.trees).directory (db.trees 0)

abbrev pub FindsDecided : Database → List (Option ℕ) → Type 0
FindsDecided db nodes = HasDecided nodes db.trees (hub_content_of db.trees).decisions

abbrev pub FindsWaiting : List (Option ℕ) → Database → Type 0
FindsWaiting boxed db = HasWaiting boxed db.trees (hub_content_of db.trees).waiting

-- The trees hold decisions, no bytes twice: as many as the last item number, and as many refusals as
-- the last interchange number. And what waits was boxed so.
pub record FindsItems (n : HubNumbers) (db : Database) : Type 0 where
  pub decided : AreRows decision_row (enumerate_from 1 (hub_content_of db.trees).decisions) (db.trees 2)
  pub boxed : AllByRecursion (λ d. IsWideOutcome d.outcome) (hub_content_of db.trees).decisions
  pub once : AreOnce (hub_content_of db.trees).decisions
  pub numbered : HaveItemNumbers 1 (hub_content_of db.trees).decisions
  pub count : n.item ≡ length (hub_content_of db.trees).decisions
  pub refused : n.icn ≡ count_of_refusals (hub_content_of db.trees).decisions
  pub waiting : AreRows waiting_row (map waiting_pair (hub_content_of db.trees).waiting) (db.trees 4)
  pub waits : AllWaitRightly (hub_content_of db.trees).decisions (hub_content_of db.trees).waiting
  pub rising : AreRising 0 (hub_content_of db.trees).waiting

-- The tables beside the numbers hold decisions of these numbers, what waits, and the directory.
abbrev pub FindsHubRows : HubNumbers → Database → ℕ → Type 0
FindsHubRows n db last = FindsItems n db × FindsEntries db last

-- Records of the hub of this party were found in a database that is open, and stays as it was.
pub record AreFoundAtHub (who : Party) (old new : State) : Type 0 where
  pub is_open : IsTrue new.is_open
  pub same : new.now ≡ old.now
  pub own : (hub_content_of old.now.trees).party ≡ who

-- the tables hold sound records of the hub of this party, which are what they stand for
pub record FindsHubRecords (who : Party) (db : Database) (last : ℕ) : Type 0 where
  pub holds : HasHubTables last db (hub_content_of db.trees)
  pub sound : IsSoundHub (hub_content_of db.trees)
  pub party : (hub_content_of db.trees).party ≡ who

-- the tables hold sound records of a hub
pub record HoldsSoundHub (db : Database) : Type 0 where
  pub last : ℕ
  pub holds : HasHubTables last db (hub_content_of db.trees)
  pub sound : IsSoundHub (hub_content_of db.trees)

-- the same, of the hub of this party
abbrev pub HoldsHubOf : Party → Database → Type 0
HoldsHubOf who db = HoldsSoundHub db × ((hub_content_of db.trees).party ≡ who)

-- the same, with these numbers
abbrev pub HoldsHubBy : HubNumbers → Database → Type 0
HoldsHubBy n db = HoldsSoundHub db × (hub_numbers_of (hub_content_of db.trees) ≡ n)

-- the same, whose decisions box for these nodes
abbrev pub HoldsHubFor : List (Option ℕ) → Database → Type 0
HoldsHubFor nodes db = HoldsSoundHub db × (map boxed_for (hub_content_of db.trees).decisions ≡ nodes)

-- a hub left sound records of this party in a database that is open, in no transaction, and without a
-- limit of steps
pub record WereLeftByHub (who : Party) (s : State) : Type 0 where
  pub ready : IsAtRest s
  pub outside : s.in_transaction ≡ false
  pub holds : HoldsHubOf who s.now
