-- what was gathered are the agreements of the rows so far
use Rattle.std.proofs.Common.{◌≡◌, map, take, drop}
use Rattle.std.specs.List.{AllByRecursion}
use Rattle.x12_judge.specs.Agreement.{agreement_view}
use Rattle.x12_station_records.specs.StationAgreed.{pair_shown, AreKept}
use Rattle.x12_station_records.specs.StationContent.{agreements_of}
use Rattle.x12_station_records.specs.StationTaken.{HasPair}
use Rattle.x12_station_records.proofs.station_agreements.agreements_in_rows.Given as goal

abbrev pub invariant-loop-row : goal.invariant-loop-row
invariant-loop-row l =
    (map agreement_view l.agreements.items ≡ agreements_of (map pair_shown (take l.row-index l.rows))) × AreKept (map agreement_view l.agreements.items)
    × (AllByRecursion HasPair l.rows → AllByRecursion HasPair (drop l.row-index l.rows))
