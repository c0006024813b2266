-- The numbers under which a network's refusals are printed.
use Rattle.std.specs.Prelude.{ℕ, List, codes}
use Rattle.x12_core.specs.declared.fault.CoreFault.{CoreFault}
use Rattle.x12_core.specs.declared.fault.CoreFault.TheVariants as code
use Rattle.x12_world.specs.declared.refused.Refused.{Refused}
use Rattle.x12_world.specs.declared.refused.Refused.TheVariants as world

abbrev pub refused_number : Refused → List ℕ
refused_number world.NoSuchPacket = codes "V1"
refused_number world.SpokenFor = codes "V2"
refused_number (world.Node fault) = codes "V3"
refused_number world.NoSuchNode = codes "V4"
refused_number world.Memory = codes "V5"
refused_number world.BadNetwork = codes "V6"
refused_number world.Exhausted = codes "V7"

-- what the network says where a core refuses
abbrev pub refused_by_core : CoreFault → Refused
refused_by_core code.WrongKind = world.NoSuchNode
refused_by_core code.Memory = world.Memory
refused_by_core (code.Node fault) = world.Node fault
