-- What the records of a hub hold: whose they are, and one list for each table.
use Rattle.std.specs.Prelude.{◌≡◌, ℕ, zero, suc, ◌+◌, List, [], ◌∷◌, Bool, true, false, map, length, slice_get, Option, None, Some, option_map, ◌<◌}
use Rattle.std.specs.List.{count_by}
use Rattle.x12_envelopes.specs.declared.party.Party.{Party}
use Rattle.x12_profile.specs.Interchange.{Bytes}
use Rattle.x12_hub.specs.Hub.{Hub, Mailbox, Decision, HubOutcome, Boxed, Refused}
use Rattle.x12_hub.specs.DecidesOnce.{AreOnce}

-- an item that waits, and the node whose mailbox it waits in
pub record WaitingItem : Type 0 where
  pub node : ℕ
  pub item : ℕ

-- the hub's party, the directory, the decisions in their order, what waits by rising item number, and
-- the last two numbers
pub record HubStored : Type 0 where
  pub party : Party
  pub directory : List Mailbox
  pub decisions : List Decision
  pub waiting : List WaitingItem
  pub icn : ℕ
  pub item : ℕ

-- records of the hub of this party that hold nothing
abbrev pub hub_nothing_stored : Party → HubStored
hub_nothing_stored party = record {
  party = party;
  directory = [];
  decisions = [];
  waiting = [];
  icn = 0;
  item = 0;
}

-- the hub of this party over these records
abbrev pub hub_of : Party → HubStored → Hub
hub_of me s = record {
  me = me;
  directory = s.directory;
  decisions = s.decisions;
  waiting = map (λ w. w.item) s.waiting;
  icn = s.icn;
  item = s.item;
}

-- the decision that took an item number, which is its place from 1
abbrev pub decision_at : List Decision → ℕ → Option Decision
decision_at ds zero = None
decision_at ds (suc n) = slice_get ds n

-- the bytes that were decided under an item number
abbrev pub bytes_at : List Decision → ℕ → Option Bytes
bytes_at ds item = option_map (λ d. d.body) (decision_at ds item)

-- a decision that boxes has the item number n
abbrev pub IsNumbered : ℕ → HubOutcome → Type 0
IsNumbered n (Boxed node item) = item ≡ n
IsNumbered n (Refused reply) = Unit {0}

-- decisions that box have their places as item numbers, the first one n
abbrev pub HaveItemNumbers : ℕ → List Decision → Type 0
HaveItemNumbers n [] = Unit {0}
HaveItemNumbers n (d ∷ ds) = IsNumbered n d.outcome × HaveItemNumbers (n + 1) ds

-- what waits was boxed so: its item number is that of a decision, for that mailbox
abbrev pub WaitsRightly : List Decision → WaitingItem → Type 0
WaitsRightly ds w =
    (b : Bytes) × (decision_at ds w.item ≡ Some (record { body = b; outcome = Boxed w.node w.item }))

-- all that waits was boxed so
abbrev pub AllWaitRightly : List Decision → List WaitingItem → Type 0
AllWaitRightly ds [] = Unit {0}
AllWaitRightly ds (w ∷ ws) = WaitsRightly ds w × AllWaitRightly ds ws

-- what waits stands by rising item number, above this one
abbrev pub AreRising : ℕ → List WaitingItem → Type 0
AreRising last [] = Unit {0}
AreRising last (w ∷ ws) = (last < w.item) × AreRising w.item ws

-- whether an outcome is a refusal
abbrev pub is_refusal : HubOutcome → Bool
is_refusal (Boxed node item) = false
is_refusal (Refused reply) = true

-- how many decisions refuse
abbrev pub count_of_refusals : List Decision → ℕ
count_of_refusals ds = count_by (λ d. is_refusal d.outcome) ds

-- tables that fit together: no bytes are decided twice, the item number is the number of decisions,
-- the interchange number is the number of refusals, each decision that boxes has its place as item
-- number, and what waits was boxed so and stands by rising item number
pub record IsSoundHub (s : HubStored) : Type 0 where
  pub once : AreOnce s.decisions
  pub count : s.item ≡ length s.decisions
  pub refused : s.icn ≡ count_of_refusals s.decisions
  pub numbered : HaveItemNumbers 1 s.decisions
  pub waits : AllWaitRightly s.decisions s.waiting
  pub rising : AreRising 0 s.waiting

-- records that fit together, of the hub of this party
pub record IsHubOf (me : Party) (s : HubStored) : Type 0 where
  pub sound : IsSoundHub s
  pub party : s.party ≡ me
