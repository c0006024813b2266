-- Why a running network refuses an event: by the table of refusals, or as a node's own table says.
-- Of want of memory and of records that fail no table tells.
use Rattle.std.specs.Prelude.{◌≡◌, Option, Some, None}
use Rattle.x12_core.specs.declared.fault.NodeFault.{NodeFault}
use Rattle.x12_core.specs.Fault.{IsRefusalOfAsk}
use Rattle.x12_core.specs.Node.{Node}
use Rattle.x12_profile.specs.X12.{x12}
use Rattle.x12_world.specs.declared.refused.Refused.{Refused}
use Rattle.x12_world.specs.declared.refused.Refused.TheVariants as code
use Rattle.x12_world.specs.Effect.{Asked, asked_by}
use Rattle.x12_world.specs.EventRefusal.{EventRefusal, network_refusal, NoEventLeft, NoSuchNode, NoSuchPacket, SpokenFor}
use Rattle.x12_world.specs.Nodes.{node_at}
use Rattle.x12_world.specs.World.{World, Event}

-- the node that the event asks says so
abbrev pub IsNodeFault : World → Event → NodeFault → Type 0
IsNodeFault w e fault =
    (a : Asked) × (n : Node) × (asked_by w.packets e ≡ Some a) × (node_at w.nodes a.node ≡ Some n)
    × IsRefusalOfAsk a.ask n fault

-- the network says why it refuses: by its own table first, then for want of memory, then by its node
abbrev pub IsNetworkRefusal : World → Event → Refused → Type 0
IsNetworkRefusal w e code.Exhausted = network_refusal x12 w e ≡ Some NoEventLeft
IsNetworkRefusal w e code.NoSuchNode = network_refusal x12 w e ≡ Some NoSuchNode
IsNetworkRefusal w e code.NoSuchPacket = network_refusal x12 w e ≡ Some NoSuchPacket
IsNetworkRefusal w e code.SpokenFor = network_refusal x12 w e ≡ Some SpokenFor
IsNetworkRefusal w e code.Memory = network_refusal x12 w e ≡ None
IsNetworkRefusal w e (code.Node fault) = (network_refusal x12 w e ≡ None) × IsNodeFault w e fault
IsNetworkRefusal w e code.BadNetwork = ⊥

-- the network's own table says so
abbrev pub IsOfNetwork : Option EventRefusal → Refused → Type 0
IsOfNetwork row code.Exhausted = row ≡ Some NoEventLeft
IsOfNetwork row code.NoSuchNode = row ≡ Some NoSuchNode
IsOfNetwork row code.NoSuchPacket = row ≡ Some NoSuchPacket
IsOfNetwork row code.SpokenFor = row ≡ Some SpokenFor
IsOfNetwork row code.Memory = ⊥
IsOfNetwork row (code.Node fault) = ⊥
IsOfNetwork row code.BadNetwork = ⊥
