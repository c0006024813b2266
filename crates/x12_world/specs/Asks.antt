-- What the node of a site did where it was asked, or why it refuses.
use Rattle.std.specs.Prelude.{◌≡◌, ℕ, List, Some}
use Rattle.x12_core.specs.Ask.{Ask, does_at}
use Rattle.x12_core.specs.Core.{IsCoreRefusal}
use Rattle.x12_core.specs.declared.fault.CoreFault.{CoreFault}
use Rattle.x12_core.specs.declared.packet.Site.{Site}
use Rattle.x12_core.specs.Node.{Node}
use Rattle.x12_core.specs.Packet.{Packet}
use Rattle.x12_profile.specs.X12.{x12}
use Rattle.x12_world.specs.Nodes.{Nodes, node_at, with_node}

-- the node of this site was asked: it did so, and the first nodes became the second
pub record IsAsked (ask : Ask) (i : Site) (old new : Nodes) (sends : List Packet) : Type 0 where
  pub node : Node
  pub is : node_at old i.node ≡ Some node
  pub next : Node
  pub effect : does_at x12 i ask node ≡ Some (record { node = next; sends = sends })
  pub nodes : new ≡ with_node old i.node next

-- node i refuses
pub record IsAskedInVain (ask : Ask) (i : ℕ) (nodes : Nodes) (f : CoreFault) : Type 0 where
  pub node : Node
  pub is : node_at nodes i ≡ Some node
  pub why : IsCoreRefusal i ask node f
