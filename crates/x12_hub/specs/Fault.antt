-- The numbers of a hub's refusals, B1 to B4, and which of them its records cause.
use Rattle.std.specs.Prelude.{ℕ, List, codes}
use Rattle.x12_hub.specs.declared.fault.HubFault.{HubFault}
use Rattle.x12_hub.specs.declared.fault.HubFault.TheVariants as hub
use Rattle.x12_hub.specs.declared.records.HubStoreFault.{HubStoreFault}
use Rattle.x12_hub.specs.declared.records.HubStoreFault.TheVariants as store

-- the number of a refusal
abbrev pub hub_fault_number : HubFault → List ℕ
hub_fault_number (hub.Unreadable fault) = codes "B1"
hub_fault_number hub.Exhausted = codes "B2"
hub_fault_number hub.Store = codes "B3"
hub_fault_number hub.Memory = codes "B4"

-- what the hub says where its records answer nothing
abbrev pub fault_of_store : HubStoreFault → HubFault
fault_of_store store.Device = hub.Store
fault_of_store store.Memory = hub.Memory
