use Rattle.x12_records.proofs.LeftLemmas.{nothing_left}
use Rattle.x12_records.proofs.migrating.migrate_station_file.Goals as goal

pub migrate_station-requires-clause-left : goal.migrate_station-requires-clause-left
migrate_station-requires-clause-left c = nothing_left
