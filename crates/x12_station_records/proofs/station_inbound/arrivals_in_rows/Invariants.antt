use Rattle.std.proofs.Common.{ℕ, List, drop, ◌++◌}
use Rattle.x12_station_records.specs.StationAdopt.{AreArrivals, IsArrivalRow}
use Rattle.x12_station_records.specs.StationTaken.{AreChained}
use Rattle.x12_station_records.proofs.station_inbound.arrivals_in_rows.Given as goal

abbrev pub invariant-loop-row : goal.invariant-loop-row
invariant-loop-row l =
    ((rest : List ℕ) → AreArrivals l.last rest (drop l.row-index l.fn.rows) → AreArrivals 0 (l.seqs.items ++ rest) l.fn.rows)
    × (AreChained IsArrivalRow 0 l.fn.rows → AreChained IsArrivalRow l.last (drop l.row-index l.fn.rows))
