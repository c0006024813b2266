-- The logs of all nodes, merged by their stamps, as one run of the network.
use Rattle.std.specs.Prelude.{◌≡◌, ◌==◌, ◌++◌, ℕ, suc, List, [], ◌∷◌, Bool, true, false, Option, Some, None, filter, length, map, nat_le}
use Rattle.x12_core.specs.Ask.{Ask, Do, Comes, Outside, Fate, fate_told}
use Rattle.x12_core.specs.Node.{Node}
use Rattle.x12_core.specs.Packet.{PacketName}
use Rattle.x12_nodes.specs.Log.{NodeAnswer, Sent, FateIs, LogEntry, answer_to_sends}
use Rattle.x12_outbound.specs.declared.fate.Fate.{Fate as SetFate}
use Rattle.x12_profile.specs.X12.{x12}
use Rattle.x12_world.specs.EventRefusal.{event_refusal}
use Rattle.x12_world.specs.Network.{Network}
use Rattle.x12_world.specs.Nodes.{Nodes, node_at}
use Rattle.x12_world.specs.Packet.{named}
use Rattle.x12_world.specs.Run.{happens, run, new_world}
use Rattle.x12_world.specs.World.{World, Event}
use Rattle.x12_world.specs.World as event

-- an entry, and the node whose log has it
pub record Logged : Type 0 where
  pub node : ℕ
  pub entry : LogEntry

-- the entries of one node, in their order
abbrev pub entries_of : ℕ → List Logged → List LogEntry
entries_of i xs = map (λ (x : Logged). x.entry) (filter (λ (x : Logged). x.node == i) xs)

-- whether an answer is of an event; that a fate is told is none
abbrev pub is_event : NodeAnswer → Bool
is_event (Sent number told) = true
is_event (FateIs fate) = false

-- those entries that are events
abbrev pub events_in : List Logged → List Logged
events_in xs = filter (λ (x : Logged). is_event x.entry.answer) xs

-- the number of the event with this stamp: how many of these events have stamps up to it
abbrev pub number_at : List Logged → ℕ → ℕ
number_at xs stamp = length (filter (λ (x : Logged). nat_le x.entry.stamp stamp) xs)

-- the name in the network of a packet whose name has the stamp of its event
abbrev pub name_in : List Logged → PacketName → PacketName
name_in xs name = record { event = number_at xs name.event; place = name.place }

-- the network's event that this is, where packets are named so
abbrev pub event_at : ℕ → (PacketName → PacketName) → Ask → Option Event
event_at i name_of (Do a) = Some (event.At i a)
event_at i name_of (Comes name from load at) = Some (event.Deliver (name_of name) at)
event_at i name_of (Outside b at) = Some (event.Outside i b at)
event_at i name_of (Fate k) = None

-- the event of an entry behind these
abbrev pub event_behind : List Logged → Logged → Option Event
event_behind before x = event_at x.node (name_in (events_in before)) x.entry.ask

-- an entry is this event: no row of the network's table refuses it, it makes the next world, it sends
-- the entry's packets, and the answer tells them
pub record IsEventOf (w : World) (e : Event) (x : Logged) (new : World) : Type 0 where
  pub table : event_refusal x12 w e ≡ None
  pub world : new ≡ happens x12 w e
  pub sent : new.packets ≡ w.packets ++ named (suc w.events) 1 x.entry.packets
  pub answer : x.entry.answer ≡ answer_to_sends x.entry.ask x.entry.packets

-- an entry tells the fate at this point, and nothing happens
pub record IsFateOf (w : World) (x : Logged) (new : World) : Type 0 where
  pub node : Node
  pub there : node_at w.nodes x.node ≡ Some node
  pub fate : Option SetFate
  pub told : fate_told x12 x.entry.ask node ≡ Some fate
  pub answer : x.entry.answer ≡ FateIs fate
  pub same : new ≡ w

abbrev pub HappensSo : World → Option Event → Logged → World → Type 0
HappensSo w (Some e) x new = IsEventOf w e x new
HappensSo w None x new = IsFateOf w x new

-- the entries happen one after the other, behind those before
abbrev pub RunsAs : World → (before xs : List Logged) → World → Type 0
RunsAs w before [] new = new ≡ w
RunsAs w before (x ∷ xs) new = (mid : World) × HappensSo w (event_behind before x) x mid
    × RunsAs mid (before ++ x ∷ []) xs new

-- one event more in front, if there is one
abbrev pub with_event : Option Event → List Event → List Event
with_event None es = es
with_event (Some e) es = e ∷ es

-- the events of the entries, behind those before
abbrev pub events_behind : (before xs : List Logged) → List Event
events_behind before [] = []
events_behind before (x ∷ xs) =
    with_event (event_behind before x) (events_behind (before ++ x ∷ []) xs)

-- the entries are one run of this network: its events bring the new world to one with these nodes,
-- each answer is the one at its point, and nothing else happens
pub record IsOneRun (net : Network) (xs : List Logged) (last : Nodes) : Type 0 where
  pub world : World
  pub runs : RunsAs (new_world net) [] xs world
  pub is : world ≡ run x12 (events_behind [] xs) (new_world net)
  pub nodes : world.nodes ≡ last
