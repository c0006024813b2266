-- What the passes of a run tell of its links.
use Rattle.std.specs.Prelude.{◌≡◌, List, Option, Some, slice_get, ℕ}
use Rattle.x12_core.specs.declared.packet.PacketName.{PacketName as CodeName}
use Rattle.x12_core.specs.declared.packet.Site.{Site}
use Rattle.x12_links.specs.declared.link.Way.{Way}
use Rattle.x12_links.specs.declared.plan.FaultPlan.{FaultPlan}
use Rattle.x12_links.specs.declared.worker.Delivery.{Delivery}
use Rattle.x12_links.specs.Net.{IsNodeHeard}
use Rattle.x12_network.specs.Deliveries.{delivered_from, IsBehind}
use Rattle.x12_network.specs.Senders.{senders_into}
use Rattle.x12_nodes.specs.View.{Receipt}

-- the packets of a way come by rising name
abbrev pub come_rising : Way → Option CodeName → CodeName → Type 0
come_rising way after name = IsBehind after name

-- Of each node, by its site and its pass, and of each node that sends to it: what was taken out of the sender's inbox is a front
-- of what the plan makes of packets that came by rising name. The node answered so about each, in this order; what it took is
-- what the pass tells as delivered, and at most the last is cut off by a halt. Of other nodes' packets none was delivered.
pub record AreLinked (answers : Delivery → Type 0) (plan : FaultPlan) (sites : List Site) (passes : List (List Receipt)) : Type 0 where
  pub each : (place : ℕ) (at : Site) (pass : List Receipt) → slice_get sites place ≡ Some at → slice_get passes place ≡ Some pass
      → IsNodeHeard come_rising (λ from name. answers) plan at.node (senders_into sites at) (λ from. delivered_from from pass)
