-- A network that runs: its world, as its cores and its packets are, whether the records of each node
-- have answered so far, whether their disk has returned what was written, and how often they failed.
use Rattle.std.specs.Prelude.{ℕ, List, [], ◌∷◌, ◌++◌, ◌≤◌, ◌-◌, Bool, true, ◌==◌, if◌then◌else◌, Option, Some, None, IsSome, IsTrue, get_or, map, length, option_map, option_to_list, Vec}
use Rattle.std.specs.Global.{Global}
use Rattle.std.specs.List.{list_all}
use Rattle.x12_hub.specs.Hub.{Hub}
use Rattle.x12_hub.specs.HubView.{HubView}
use Rattle.x12_station.specs.Seen.{StationView}
use Rattle.x12_core.specs.declared.packet.Packet.{Packet as CodePacket}
use Rattle.x12_world.specs.declared.hubs.Hubs.{Hubs as CodeHubs}
use Rattle.x12_world.specs.View.{held_view}
use Rattle.x12_core.specs.Node.{Node, IsHub, IsStation, hub_node}
use Rattle.x12_world.specs.Effect.{Asked, asked_by}
use Rattle.x12_world.specs.Nodes.{Nodes, by_number}
use Rattle.x12_world.specs.World.{World, Event}

-- what is said of a node holds while its records answer
pub record Running : Type 0 where
  pub world : World
  -- whether the records of each node answer, in the order of the nodes: the second hub's last
  pub answers : List Bool
  -- whether their disks have returned what was written
  pub clean : List Bool
  -- how often they failed
  pub failures : List ℕ

-- whether each of these is so
abbrev pub all_true : List Bool → Bool
all_true bs = list_all (λ b. b) bs

-- the records of all nodes answer
abbrev pub AllAnswer : Running → Type 0
AllAnswer r = IsTrue (all_true r.answers)

-- whether those of the node of a number answer
abbrev pub answers_at : Running → ℕ → Bool
answers_at r i = by_number i (get_or r.answers i true)
    (get_or r.answers (length r.world.nodes.listed) true) r.world.nodes.second

-- those of the node that an event asks answer, if it asks one
abbrev pub asked_answers : Running → Option Asked → Bool
asked_answers r None = true
asked_answers r (Some a) = answers_at r a.node

abbrev pub AskedAnswers : World → Event → Running → Type 0
AskedAnswers w e r = IsTrue (asked_answers r (asked_by w.packets e))

-- no records answer that didn't before
abbrev pub NoneWonBack : (old new : List Bool) → Type 0
NoneWonBack old new = (k : ℕ) → IsTrue (get_or new k true) → IsTrue (get_or old k true)

-- the hubs beside the stations: the first, the second, if there is one, and the number of each
-- station's hub
pub record Hubs : Type 0 where
  pub first : Hub
  pub second : Option Hub
  pub homes : List ℕ

-- the stations, as nodes
abbrev pub station_nodes : {R : Type 0} → List (StationView R) → List Node
station_nodes ss = map (λ s. IsStation s.state) ss

-- the nodes of hubs and of what stands beside them: the first hub, these, and the second hub
abbrev pub beside : Hubs → List Node → Nodes
beside h ns = record {
  listed = IsHub h.first ∷ ns;
  homes = hub_node ∷ h.homes;
  second = option_map IsHub h.second;
}

-- the nodes of hubs and stations
abbrev pub nodes_of : {R : Type 0} → Hubs → List (StationView R) → Nodes
nodes_of h ss = beside h (station_nodes ss)

-- where there is a second hub, the numbers below its own are enough for the stations
abbrev pub HasNumbers : {R : Type 0} → Hubs → List (StationView R) → Type 0
HasNumbers h ss = IsSome h.second → length ss ≤ 16

-- of the nodes of these stations beside any hubs that leave them their numbers
abbrev pub BesideAnyHubs : {R : Type 0} → List (StationView R) → (Nodes → Type 0) → Type 0
BesideAnyHubs ss says = (h : Hubs) → HasNumbers h ss → says (nodes_of h ss)

-- what the code's hubs are
abbrev pub hubs_in : {H : Type 0} → CodeHubs H → Hubs
hubs_in h = record {
  first = h.first.hub;
  second = option_map (λ k. k.hub) h.second;
  homes = h.homes.items;
}

-- whether the records of a second hub answer, if there is one, and how often they failed
abbrev pub second_answers : {H : Type 0} → Option (HubView H) → Bool
second_answers None = true
second_answers (Some h) = h.answers

abbrev pub second_failures : {H : Type 0} → Option (HubView H) → List ℕ
second_failures None = []
second_failures (Some h) = h.failures ∷ []

-- whether those of the hub of a number do
abbrev pub hub_answers : {H : Type 0} → CodeHubs H → ℕ → Bool
hub_answers h i = if i == hub_node then h.first.answers else second_answers h.second

-- whether the records of all stations answer
abbrev pub all_answer : {R : Type 0} → List (StationView R) → Bool
all_answer ss = list_all (λ s. s.answers) ss

-- whether those of each station do
abbrev pub station_answers : {R : Type 0} → List (StationView R) → List Bool
station_answers ss = map (λ s. s.answers) ss

-- and those of the station of a number
abbrev pub station_answers_at : {R : Type 0} → List (StationView R) → ℕ → Bool
station_answers_at ss i = get_or (station_answers ss) (i - 1) true

-- of a number that is a station's they answer
abbrev pub AnswersIfStation : {R : Type 0} → (old new : List (StationView R)) → ℕ → Type 0
AnswersIfStation old new i = 1 ≤ i → i ≤ length old → IsTrue (station_answers_at new i)

-- whether those of each node do that a network is to have: the hub, these, and the second hub
abbrev pub founders_beside : {H : Type 0} → HubView H → Option (HubView H) → List Bool → List Bool
founders_beside h second bs = (h.answers ∷ bs) ++ map (λ k. k.answers) (option_to_list second)

abbrev pub founders_answers : {H R : Type 0} → HubView H → Option (HubView H) → List (StationView R) → List Bool
founders_answers h second ss = founders_beside h second (station_answers ss)

-- whether the records of all of them answer
abbrev pub founders_answer : {H R : Type 0} → HubView H → Option (HubView H) → List (StationView R) → Bool
founders_answer h second ss = all_true (founders_answers h second ss)

-- the same of what their disks returned
abbrev pub founders_clean_beside : {H : Type 0} → HubView H → Option (HubView H) → List Bool → List Bool
founders_clean_beside h second cs = (h.clean ∷ cs) ++ map (λ k. k.clean) (option_to_list second)

abbrev pub station_clean : {R : Type 0} → List (StationView R) → List Bool
station_clean ss = map (λ s. s.clean) ss

abbrev pub founders_clean : {H R : Type 0} → HubView H → Option (HubView H) → List (StationView R) → List Bool
founders_clean h second ss = founders_clean_beside h second (station_clean ss)

abbrev pub clean_beside : {H : Type 0} → CodeHubs H → List Bool → List Bool
clean_beside h cs = founders_clean_beside h.first h.second cs

-- whether the records of each node answer, and whether those of all do
abbrev pub answers_beside : {H : Type 0} → CodeHubs H → List Bool → List Bool
answers_beside h bs = founders_beside h.first h.second bs

abbrev pub answering : {H R : Type 0} → CodeHubs H → List (StationView R) → List Bool
answering h ss = answers_beside h (station_answers ss)

abbrev pub nodes_answer : {H R : Type 0} → CodeHubs H → List (StationView R) → Bool
nodes_answer h ss = all_true (answering h ss)

-- the world of these nodes, with the packets of each event
abbrev pub world_with : Nodes → List (Vec CodePacket Global) → World
world_with nodes held = record {
  nodes = nodes;
  packets = held_view held;
  events = length held;
}

-- the world of these cores
abbrev pub world_of : {H R : Type 0} → CodeHubs H → List (StationView R)
    → List (Vec CodePacket Global) → World
world_of h ss held = world_with (nodes_of (hubs_in h) ss) held
