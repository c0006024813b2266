-- what is left decides
use Rattle.std.proofs.Common.{◌≡◌, drop}
use Rattle.std.specs.List.{list_all}
use Rattle.x12_nodes.specs.Cell.{CellView}
use Rattle.x12_nodes.specs.Check.{is_station_opened}
use Rattle.x12_nodes.proofs.founding.are_stations_of.Given as goal

abbrev pub invariant-loop-station : goal.invariant-loop-station
invariant-loop-station g l =
    list_all (λ (c : CellView). is_station_opened l.hub l.second c.site.hub c.opening) (drop l.station-index l.stations)
    ≡ list_all (λ (c : CellView). is_station_opened l.hub l.second c.site.hub c.opening) l.stations
