-- What a node is: a station, or a hub.
use Rattle.std.specs.Prelude.{ℕ, Bool, true, false, Option, Some, None}
use Rattle.x12_envelopes.specs.declared.party.Party.{Party}
use Rattle.x12_hub.specs.Hub.{Hub}
use Rattle.x12_station.specs.Station.{Station}

-- a node is a hub or a station
pub data Node : Type 0 where
  IsHub : Hub → Node
  IsStation : Station → Node

-- the first hub's number; stations have the numbers behind it
abbrev pub hub_node : ℕ
hub_node = 0

-- the second hub's number, if there is one
abbrev pub second_hub_node : ℕ
second_hub_node = 17

-- whose node it is
abbrev pub party_of_node : Node → Party
party_of_node (IsHub h) = h.me
party_of_node (IsStation s) = s.me

-- whether a node is there, and a station
abbrev pub is_station : Option Node → Bool
is_station None = false
is_station (Some (IsHub h)) = false
is_station (Some (IsStation s)) = true

-- whether a node is there, and a hub
abbrev pub is_hub : Option Node → Bool
is_hub None = false
is_hub (Some (IsHub h)) = true
is_hub (Some (IsStation s)) = false
