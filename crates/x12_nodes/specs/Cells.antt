-- The cells of a network: by their numbers, and as its nodes.
use Rattle.std.specs.Prelude.{ℕ, List, [], ◌∷◌, ◌==◌, if◌then◌else◌, Option, Some, None, find, map, option_map}
use Rattle.x12_core.specs.Node.{Node, second_hub_node}
use Rattle.x12_nodes.specs.Cell.{CellView, opening_node}
use Rattle.x12_world.specs.Nodes.{Nodes}

-- the cell of a number, if there is one
abbrev pub cell_at : List CellView → ℕ → Option CellView
cell_at cells i = find (λ (c : CellView). c.site.node == i) cells

-- the cells of the first hub and the stations, and that of the second hub, if the last has its number
abbrev pub split : List CellView → List CellView × Option CellView
split [] = ([], None)
split (c ∷ []) = if c.site.node == second_hub_node then ([], Some c) else (c ∷ [], None)
split (c ∷ d ∷ cells) = (c ∷ (split (d ∷ cells)).0, (split (d ∷ cells)).1)

-- the nodes of cells, by what is seen of each
abbrev pub nodes_by : (CellView → Node) → List CellView → Nodes
nodes_by seen cells = record {
  listed = map seen (split cells).0;
  homes = map (λ (c : CellView). c.site.hub) (split cells).0;
  second = option_map seen (split cells).1;
}

-- what they were when the cells were made, and what they are now
abbrev pub nodes_opened : List CellView → Nodes
nodes_opened cells = nodes_by (λ c. opening_node c.opening) cells

abbrev pub nodes_now : List CellView → Nodes
nodes_now cells = nodes_by (λ c. c.now) cells
