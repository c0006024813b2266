use Rattle.x12_records.proofs.LeftLemmas.{nothing_left}
use Rattle.x12_records.proofs.opening.open_station_file.Goals as goal

pub open_station-requires-clause-left : goal.open_station-requires-clause-left
open_station-requires-clause-left c = nothing_left
