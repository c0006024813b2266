-- What the nodes of a settled network are, and what they submitted, by their logs.
use Rattle.std.specs.Prelude.{◌∷◌, [], ℕ, List, Option, None, flat_map, map, option_to_list}
use Rattle.x12_core.specs.Node.{Node, IsHub, IsStation}
use Rattle.x12_core.specs.declared.submission.Listed.{Listed}
use Rattle.x12_hub.specs.Hub.{Hub}
use Rattle.x12_nodes.specs.Cell.{CellView}
use Rattle.x12_nodes.specs.Log.{LogEntry, NodeAnswer, Sent, FateIs}
use Rattle.x12_station.specs.Station.{Station}
use Rattle.x12_world.specs.Audit.{station_in}

-- the number of what was submitted, as an answer tells it
abbrev pub number_told : NodeAnswer → Option ℕ
number_told (Sent number told) = number
number_told (FateIs fate) = None

-- that this node submitted under a number, if it did
abbrev pub listed_as : ℕ → Option ℕ → List Listed
listed_as i number = map (λ n. record { node = i; icn = n }) (option_to_list number)

-- what an entry of this node's log submitted, if it did
abbrev pub listed_of : ℕ → LogEntry → List Listed
listed_of i e = listed_as i (number_told e.answer)

-- what the log of this node submitted
abbrev pub listed_in : ℕ → List LogEntry → List Listed
listed_in i log = flat_map (listed_of i) log

-- what the logs of all nodes submitted, node by node
abbrev pub listed_in_logs : List CellView → List Listed
listed_in_logs cells = flat_map (λ (c : CellView). listed_in c.site.node c.log) cells

-- the hub that a node is
abbrev pub hub_of_node : Node → List Hub
hub_of_node (IsHub h) = h ∷ []
hub_of_node (IsStation s) = []

-- the hubs that the nodes of cells are
abbrev pub hubs_of_cells : List CellView → List Hub
hubs_of_cells cells = flat_map hub_of_node (map (λ (c : CellView). c.now) cells)

-- the stations that the nodes of cells are
abbrev pub states_in : List CellView → List Station
states_in cells = flat_map station_in (map (λ (c : CellView). c.now) cells)
