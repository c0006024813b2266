-- What the parts of a commit change in the tables of a hub's records.
use Rattle.std.specs.Prelude.{◌≡◌, ◌<◌, ℕ, List, [], ◌∷◌, ◌++◌, ◌+◌, length}
use Rattle.sqlite.specs.Effect.{Database}
use Rattle.sqlite.specs.State.{State}
use Rattle.x12_envelopes.specs.declared.party.Party.{Party}
use Rattle.x12_hub.specs.Hub.{Decision, HubOutcome, entries_of_others}
use Rattle.x12_hub.specs.Plan.{HubAct, Enrols, HubCommit, put_waiting, take_waiting, hub_changed, hub_stored_after}
use Rattle.x12_hub.specs.Stored.{HubStored, AreRising, IsSoundHub}
use Rattle.x12_hub_records.specs.HubTables.{HasHubTables}

-- What the tables hold changes from these records to those, where what it needs holds of them.
abbrev pub TurnsHub : (HubStored → HubStored) → (HubStored → Type 0) → State → State → Type 0
TurnsHub change Needs old new =
    (last : ℕ) (s : HubStored) → Needs s → HasHubTables last old.now s →
    HasHubTables last new.now (change s)

-- an item waits no more
abbrev pub taken_out : ℕ → HubStored → HubStored
taken_out item s = record s { waiting = take_waiting item s.waiting }

-- an item waits, and is in its place by rising number
abbrev pub put_in : ℕ → ℕ → HubStored → HubStored
put_in node item s = record s { waiting = put_waiting node item s.waiting }

-- what waits rises still, with the item in it
abbrev pub RisesWith : ℕ → ℕ → HubStored → Type 0
RisesWith node item s = AreRising 0 (put_waiting node item s.waiting)

-- an item is put in where it was taken out
abbrev pub Adds : ℕ → ℕ → State → State → Type 0
Adds node item old new = (last : ℕ) (s : HubStored) → RisesWith node item s
    → HasHubTables last old.now (taken_out item s) → HasHubTables last new.now (put_in node item s)

-- the number is the next decision's place
abbrev pub HasNext : ℕ → HubStored → Type 0
HasNext item s = item ≡ 1 + length s.decisions

abbrev pub decision_of : List ℕ → HubOutcome → Decision
decision_of body outcome = record { body = body; outcome = outcome }

-- a decision more
abbrev pub decided_too : Decision → HubStored → HubStored
decided_too d s = record s { decisions = s.decisions ++ d ∷ [] }

-- other last numbers
abbrev pub with_last_hub_numbers : ℕ → ℕ → HubStored → HubStored
with_last_hub_numbers icn item s = record s { icn = icn; item = item }

-- a party has no entry
abbrev pub without_party : Party → HubStored → HubStored
without_party party s = record s { directory = entries_of_others party s.directory }

-- an entry more, behind the others
abbrev pub with_entry : Party → ℕ → HubStored → HubStored
with_entry party node s = record s {
  directory = s.directory ++ record { party = party; node = node } ∷ [];
}

-- a party's entry is written anew, behind the others
abbrev pub enrolled_too : Party → ℕ → HubStored → HubStored
enrolled_too party node s = with_entry party node (without_party party s)

-- What the tables hold changes so, and an entry got this number, which was above all.
abbrev pub EntersHub : ℕ → (HubStored → HubStored) → State → State → Type 0
EntersHub at change old new =
    (last : ℕ) (s : HubStored) → last < at → HasHubTables last old.now s →
    HasHubTables at new.now (change s)

-- the last number of an entry after a change that gives the number `at` to what it enrols
abbrev pub last_after : HubAct → ℕ → ℕ → ℕ
last_after (Enrols party node) at last = at
last_after _ at last = last

-- what waits rises, and the item number is the number of decisions
pub record FitsInHub (item : ℕ) (s : HubStored) : Type 0 where
  pub rising : AreRising 0 s.waiting
  pub count : item ≡ length s.decisions

-- The change fits these records.
abbrev pub FitsAfter : ℕ → HubAct → HubStored → Type 0
FitsAfter item change s = FitsInHub item (hub_changed change s)

-- What the tables hold changes as a plan's change says, if that fits.
abbrev pub MakesHubAct : ℕ → ℕ → HubAct → State → State → Type 0
MakesHubAct at item change old new =
    (last : ℕ) (s : HubStored) → last < at → FitsAfter item change s → HasHubTables last old.now s
    → HasHubTables (last_after change at last) new.now (hub_changed change s)

-- What the tables hold changes as a plan says, if that leaves sound records.
abbrev pub FollowsHubCommit : ℕ → HubCommit → Database → Database → Type 0
FollowsHubCommit at plan old new =
    (last : ℕ) (s : HubStored) → last < at → IsSoundHub (hub_stored_after plan s) →
    HasHubTables last old s
    → HasHubTables (last_after plan.change at last) new (hub_stored_after plan s)
