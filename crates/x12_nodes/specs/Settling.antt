-- What the logs of a network's nodes are, where nothing that is checked of them is wrong.
use Rattle.std.specs.Prelude.{◌≡◌, ℕ, List, [], ◌∷◌, Bool, true, false, Some, IsSome, Contains, map, slice_get}
use Rattle.std.specs.List.{list_all}
use Rattle.x12_nodes.specs.Cell.{CellView}
use Rattle.x12_nodes.specs.Cells.{cell_at, nodes_now, nodes_opened, split}
use Rattle.x12_nodes.specs.Check.{all_came_rightly, is_replay, no_stamp_twice}
use Rattle.x12_nodes.specs.declared.settling.Check.{Check}
use Rattle.x12_nodes.specs.declared.settling.Check.TheVariants as check
use Rattle.x12_nodes.specs.declared.settling.SettleFault.{SettleFault}
use Rattle.x12_nodes.specs.declared.settling.SettleFault.TheVariants as settle
use Rattle.x12_nodes.specs.Log.{StampsRise}
use Rattle.x12_nodes.specs.Merge.{Logged, entries_of, IsOneRun}
use Rattle.x12_nodes.specs.Receiving.{all_received, no_stranger}
use Rattle.x12_nodes.specs.View.{Receipt}
use Rattle.x12_profile.specs.X12.{x12}
use Rattle.x12_world.specs.Network.{Network, IsNetwork, new_nodes}

-- whether the records of all nodes answer
abbrev pub all_cells_answer : List CellView → Bool
all_cells_answer cells = list_all (λ (c : CellView). c.answers) cells

-- whether a check finds nothing wrong
abbrev pub finds_nothing : Check → List CellView → List (List Receipt) → Bool
finds_nothing check.Stamp cells passes = no_stamp_twice cells
finds_nothing check.Packet cells passes = all_came_rightly cells cells
finds_nothing check.Replay cells passes = is_replay cells
finds_nothing check.Receipt cells passes = all_received cells passes
finds_nothing check.Stranger cells passes = no_stranger cells passes

-- the checks in front of one, the nearest first
abbrev pub checks_before : Check → List Check
checks_before check.Stamp = []
checks_before check.Packet = check.Stamp ∷ []
checks_before check.Replay = check.Packet ∷ check.Stamp ∷ []
checks_before check.Receipt = check.Replay ∷ check.Packet ∷ check.Stamp ∷ []
checks_before check.Stranger = check.Receipt ∷ check.Replay ∷ check.Packet ∷ check.Stamp ∷ []

-- each of these finds nothing wrong
abbrev pub EachFindsNothing : List Check → List CellView → List (List Receipt) → Type 0
EachFindsNothing [] cells passes = Unit {0}
EachFindsNothing (c ∷ checks) cells passes =
    (finds_nothing c cells passes ≡ true) × EachFindsNothing checks cells passes

-- what a fault says is so: the check that it names is the first that finds something wrong
abbrev pub IsInconsistent : List CellView → List (List Receipt) → SettleFault → Type 0
IsInconsistent cells passes settle.Memory = Unit {0}
IsInconsistent cells passes (settle.Inconsistent c) =
    (finds_nothing c cells passes ≡ false) × EachFindsNothing (checks_before c) cells passes

-- the checks of logs alone find nothing wrong
pub record FindNothing (cells : List CellView) : Type 0 where
  pub stamp : no_stamp_twice cells ≡ true
  pub packet : all_came_rightly cells cells ≡ true
  pub replay : is_replay cells ≡ true

-- the logs of these cells, merged by their stamps, are one run of a network from its beginning, which
-- ends with what the nodes are now
pub record AreOneRun (cells : List CellView) : Type 0 where
  pub net : Network
  pub network : IsNetwork x12 net
  pub opened : nodes_opened cells ≡ new_nodes net
  -- each cell but the second hub's has the number of its place
  pub numbers : (i : ℕ) (c : CellView) → slice_get (split cells).0 i ≡ Some c → c.site.node ≡ i
  pub merge : List Logged
  pub rises : StampsRise 0 (map (λ (x : Logged). x.entry) merge)
  pub logs : (i : ℕ) (c : CellView) → cell_at cells i ≡ Some c → entries_of i merge ≡ c.log
  pub within : (x : Logged) → Contains merge x → IsSome (cell_at cells x.node)
  pub is_run : IsOneRun net merge (nodes_now cells)
