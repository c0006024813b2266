-- The order of packets' names, and what a caller's refusal says of a cell's and of a gate.
use Rattle.std.specs.Prelude.{Bool, false, true, ◌&&◌, ◌||◌, ◌==◌, nat_lt}
use Rattle.x12_core.specs.Packet.{PacketName}
use Rattle.x12_nodes.specs.declared.fault.CallFault.{CallFault}
use Rattle.x12_nodes.specs.declared.fault.CallFault.TheVariants as call
use Rattle.x12_nodes.specs.declared.fault.CellFault.{CellFault}
use Rattle.x12_nodes.specs.declared.gate.GateFault.{GateFault}
use Rattle.x12_nodes.specs.declared.gate.GateFault.TheVariants as gate
use Rattle.x12_nodes.specs.declared.fault.CellFault.TheVariants as cell

-- the second name is above the first: of a later event, or of the same one at a later place
abbrev pub name_is_above : PacketName → PacketName → Bool
name_is_above after name =
    nat_lt after.event name.event || (after.event == name.event && nat_lt after.place name.place)

-- what a caller is told of a cell's refusal
abbrev pub fault_of_cell : CellFault → CallFault
fault_of_cell cell.WrongKind = call.WrongKind
fault_of_cell cell.Memory = call.Memory
fault_of_cell cell.WentBack = call.WentBack
fault_of_cell (cell.Core fault) = call.Core fault

-- whether a call that was refused so passed the gate: then the node refused it
abbrev pub passed_gate : GateFault → Bool
passed_gate gate.Gate = false
passed_gate (gate.Call fault) = true
