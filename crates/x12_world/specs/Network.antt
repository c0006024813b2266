-- A network as it begins: its hubs, and its stations, each at one of them.
use Rattle.std.specs.Prelude.{◌≡◌, ◌≢◌, ◌≤◌, ◌⊎◌, ℕ, List, [], ◌∷◌, ◌++◌, ◌==◌, if◌then◌else◌}
use Rattle.std.specs.Prelude.{Option, Some, None, IsSome, IsTrue, All, map, length, option_map}
use Rattle.std.specs.Prelude.{option_to_list}
use Rattle.std.specs.List.{AllPairs}
use Rattle.x12_core.specs.Node.{IsHub, IsStation, hub_node, second_hub_node}
use Rattle.x12_envelopes.specs.declared.party.Party.{Party}
use Rattle.x12_hub.specs.Hub.{new_hub}
use Rattle.x12_profile.specs.Profile.{Profile}
use Rattle.x12_station.specs.Station.{new_station}
use Rattle.x12_world.specs.Nodes.{Nodes}

-- a station of a network: its party, and the number of its hub
pub record Member : Type 0 where
  pub party : Party
  pub home : ℕ

-- the parties of the hub, of the second hub, if there is one, and of the stations
pub record Network : Type 0 where
  pub hub : Party
  pub second : Option Party
  pub stations : List Member

-- the parties of all nodes, the second hub's last
abbrev pub parties_in : Network → List Party
parties_in net = (net.hub ∷ map (λ m. m.party) net.stations) ++ option_to_list net.second

-- the hubs that a station believes, its own first
abbrev pub believed_at : Party → Option Party → (home : ℕ) → List Party
believed_at hub None home = hub ∷ []
believed_at hub (Some second) home =
    if home == second_hub_node then second ∷ hub ∷ [] else hub ∷ second ∷ []

-- a number is that of a hub of the network
abbrev pub IsHubNumber : Option Party → ℕ → Type 0
IsHubNumber second i = (i ≡ hub_node) ⊎ ((i ≡ second_hub_node) × IsSome second)

-- the parties of a network are plain, and no two alike; each station is at one of the hubs; and where
-- there are two hubs, the numbers up to that of the second are enough for the stations
pub record IsNetwork (p : Profile) (net : Network) : Type 0 where
  pub plain : All (λ party. IsTrue (p.is_plain party)) (parties_in net)
  pub distinct : AllPairs (λ a b. a ≢ b) (parties_in net)
  pub at_hubs : All (λ (m : Member). IsHubNumber net.second m.home) net.stations
  pub few : IsSome net.second → length net.stations ≤ 16

-- the nodes of a network, with empty records
abbrev pub new_nodes : Network → Nodes
new_nodes net = record {
  listed = IsHub (new_hub net.hub)
      ∷ map (λ m. IsStation (new_station m.party (believed_at net.hub net.second m.home))) net.stations;
  homes = hub_node ∷ map (λ m. m.home) net.stations;
  second = option_map (λ h. IsHub (new_hub h)) net.second;
}
