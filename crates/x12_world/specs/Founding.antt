-- What a network's nodes are to be when it begins.
use Rattle.std.specs.Prelude.{◌≡◌, ◌≢◌, ◌≤◌, ℕ, List, [], ◌∷◌, Bool, true, ◌&&◌, not, map, length, All}
use Rattle.std.specs.Prelude.{Option, Some, None, option_map, if◌then◌else◌}
use Rattle.std.specs.List.{AllPairs, list_any}
use Rattle.x12_core.specs.Node.{hub_node, second_hub_node}
use Rattle.x12_envelopes.specs.declared.party.Party.{Party}
use Rattle.x12_hub.specs.Hub.{Hub, new_hub}
use Rattle.x12_judge.specs.Agreement.{is_same_party}
use Rattle.x12_station.specs.Seen.{StationView}
use Rattle.x12_station.specs.Station.{Station, new_station}
use Rattle.x12_world.specs.Network.{Network, believed_at, parties_in}

-- the number of the hub that is the first of these
abbrev pub home_among : (second : Option Party) → List Party → ℕ
home_among None hubs = hub_node
home_among (Some second) [] = hub_node
home_among (Some second) (hub ∷ hubs) =
    if is_same_party hub second then second_hub_node else hub_node

-- a station believes these hubs, its own first, and was asked to do nothing yet
pub record IsMember (hub : Party) (second : Option Party) (s : Station) : Type 0 where
  pub believes : s.hubs ≡ believed_at hub second (home_among second s.hubs)
  pub new : s ≡ new_station s.me s.hubs

-- the stations' parties
abbrev pub parties : {R : Type 0} → List (StationView R) → List Party
parties ss = map (λ s. s.state.me) ss

-- the network of a hub, a second one, if there is one, and stations
abbrev pub network_of : {R : Type 0} → Hub → Option Hub → List (StationView R) → Network
network_of h second ss = record {
  hub = h.me;
  second = option_map (λ k. k.me) second;
  stations = map (λ s. record {
    party = s.state.me;
    home = home_among (option_map (λ k. k.me) second) s.state.hubs;
  }) ss;
}

-- a second hub was asked to do nothing yet, if there is one
abbrev pub IsNewHub : Option Hub → Type 0
IsNewHub None = Unit {0}
IsNewHub (Some h) = h ≡ new_hub h.me

-- hubs and stations make a network: 1 to 16 stations, no two nodes with one party, each station of
-- these hubs, and none of them asked to do anything yet
pub record MakesNetwork {R : Type 0} (h : Hub) (second : Option Hub) (ss : List (StationView R)) :
    Type 0 where
  pub some : 1 ≤ length ss
  pub few : length ss ≤ 16
  pub distinct : AllPairs (λ a b. a ≢ b) (parties_in (network_of h second ss))
  pub members :
      All (λ (s : StationView _). IsMember h.me (option_map (λ k. k.me) second) s.state) ss
  pub hub : h ≡ new_hub h.me
  pub second_hub : IsNewHub second

-- whether no party stands twice
abbrev pub all_differ : List Party → Bool
all_differ [] = true
all_differ (p ∷ ps) = not (list_any (is_same_party p) ps) && all_differ ps
