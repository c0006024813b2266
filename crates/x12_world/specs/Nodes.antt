-- The nodes of a network by their numbers: the first hub, 0, and the stations behind it; and the second
-- hub, 17, if there is one.
use Rattle.std.specs.Prelude.{ℕ, Bool, ◌&&◌, ◌||◌, List, ◌++◌, ◌==◌, if◌then◌else◌, Option, Some, None, option_map}
use Rattle.std.specs.Prelude.{option_to_list, set, slice_get, get_or}
use Rattle.x12_core.specs.declared.packet.Site.{Site}
use Rattle.x12_core.specs.Node.{Node, hub_node, second_hub_node, party_of_node}
use Rattle.x12_envelopes.specs.declared.party.Party.{Party}

-- the first hub and the stations behind it, the number of each one's hub, and the second hub
pub record Nodes : Type 0 where
  pub listed : List Node
  pub homes : List ℕ
  pub second : Option Node

-- of two things that of the second hub, if there is one and this is its number, and else that of a
-- listed node
abbrev pub by_number : {A : Type 0} → ℕ → (listed second : A) → Option Node → A
by_number i listed second None = listed
by_number i listed second (Some h) = if i == second_hub_node then second else listed

-- whether a number is that of a hub, where there is a second one or not
abbrev pub is_hub_number : (second : Bool) → ℕ → Bool
is_hub_number second i = (i == hub_node) || (second && (i == second_hub_node))

-- the node of a number
abbrev pub node_at : Nodes → ℕ → Option Node
node_at ns i = by_number i (slice_get ns.listed i) ns.second ns.second

-- the nodes once that of a number became another
abbrev pub with_node : Nodes → ℕ → Node → Nodes
with_node ns i n =
    by_number i (record ns { listed = set ns.listed i n }) (record ns { second = Some n }) ns.second

-- the number of a node's hub; a hub's own is its number
abbrev pub home_of : Nodes → ℕ → ℕ
home_of ns i = by_number i (get_or ns.homes i hub_node) second_hub_node ns.second

-- where the node of a number stands
abbrev pub site_of : Nodes → ℕ → Site
site_of ns i = record { node = i; hub = home_of ns i }

-- all nodes, the second hub last
abbrev pub all_nodes : Nodes → List Node
all_nodes ns = ns.listed ++ option_to_list ns.second

-- the party of the node of a number
abbrev pub party_at : Nodes → ℕ → Option Party
party_at ns i = option_map party_of_node (node_at ns i)
