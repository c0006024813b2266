-- The world: its nodes, every packet that was ever sent, and what can happen in it.
use Rattle.std.specs.Prelude.{◌≡◌, ℕ, List, Bool, map, is_some, Some}
use Rattle.std.specs.List.{list_any}
use Rattle.x12_core.specs.Action.{Action}
use Rattle.x12_core.specs.Node.{IsHub, IsStation, party_of_node}
use Rattle.x12_envelopes.specs.declared.party.Party.{Party}
use Rattle.x12_judge.specs.Agreement.{is_same_party}
use Rattle.x12_envelopes.specs.declared.moment.Moment.{Moment}
use Rattle.x12_profile.specs.Interchange.{Bytes}
use Rattle.x12_profile.specs.Profile.{Profile}
use Rattle.x12_station.specs.Station.{Station}
use Rattle.x12_hub.specs.Hub.{Hub}
use Rattle.x12_core.specs.Packet.{PacketName}
use Rattle.x12_world.specs.Nodes.{Nodes, node_at, all_nodes}
use Rattle.x12_world.specs.Packet.{SentPacket}

-- the nodes by their numbers, and the packets in the order in which they were sent
pub record World : Type 0 where
  pub nodes : Nodes
  pub packets : List SentPacket
  -- how many events there were
  pub events : ℕ

-- what happens, and at which node
pub data Event : Type 0 where
  -- a node does something of itself
  At : (node : ℕ) → Action → Event
  -- a packet comes to its node, for the first time or again
  Deliver : PacketName → Moment → Event
  -- bytes come to a node from outside the network
  Outside : (node : ℕ) → Bytes → Moment → Event

-- node i of the world is this station
abbrev pub StationAt : World → ℕ → Station → Type 0
StationAt w i s = node_at w.nodes i ≡ Some (IsStation s)

-- node i of the world is this hub
abbrev pub HubAt : World → ℕ → Hub → Type 0
HubAt w i h = node_at w.nodes i ≡ Some (IsHub h)

-- the parties of the nodes
abbrev pub parties_of : World → List Party
parties_of w = map party_of_node (all_nodes w.nodes)

-- whether there is a node of this number
abbrev pub is_node_at : World → ℕ → Bool
is_node_at w i = is_some (node_at w.nodes i)

module _ (p : Profile) where
  -- whether bytes name a node as their sender
  abbrev pub is_named : World → Bytes → Bool
  is_named w b = list_any (is_same_party (p.sender b)) (parties_of w)
