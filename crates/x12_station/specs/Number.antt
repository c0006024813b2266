-- The numbers under which a station's faults are printed.
use Rattle.std.specs.Prelude.{ℕ, List, codes}
use Rattle.x12_station.specs.declared.fault.StationFault.{StationFault}
use Rattle.x12_station.specs.declared.fault.StationFault.TheVariants as station

abbrev pub station_fault_number : StationFault → List ℕ
station_fault_number station.OwnAddress = codes "S1"
station_fault_number station.Empty = codes "S2"
station_fault_number station.BadText = codes "S3"
station_fault_number (station.BadHeader h) = codes "S4"
station_fault_number station.NotMine = codes "S5"
station_fault_number (station.Shape o) = codes "S6"
station_fault_number station.Acknowledgments = codes "S7"
station_fault_number station.SetTwice = codes "S8"
station_fault_number station.TooLarge = codes "S9"
station_fault_number station.NotNew = codes "S10"
station_fault_number station.Exhausted = codes "S11"
station_fault_number (station.Unreadable h) = codes "S12"
station_fault_number station.Store = codes "S13"
station_fault_number station.Memory = codes "S14"
