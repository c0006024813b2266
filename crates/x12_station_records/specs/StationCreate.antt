-- What making the tables of a station's records does.
use Rattle.std.specs.Prelude.{List}
use Rattle.sqlite.specs.Change.{created}
use Rattle.sqlite.specs.Effect.{Database}
use Rattle.sqlite.specs.Schema.{Schema}
use Rattle.sqlite.specs.State.{State}
use Rattle.x12_envelopes.specs.declared.party.Party.{Party}
use Rattle.x12_station.specs.Stored.{Stored, origin_of, nothing_stored}
use Rattle.x12_tables.specs.Schema.{no_schema, HasEmpty}
use Rattle.x12_station_records.specs.StationPlan.{HoldsRows}
use Rattle.x12_station_records.specs.StationSchema.{agreement, outbound, outset, numbers, station_schema}
use Rattle.x12_station_records.specs.declared.station_committing.NextRows.{NextRows}

-- the tables of what a station sends
abbrev pub outbound_schema : Schema
outbound_schema =
    created (created (created (created no_schema (numbers 0)) (agreement 0)) (outbound 0))
    (outset 0)

-- the numbers of the first rows
abbrev pub first_rows : NextRows
first_rows = record { agreement = 1; set = 1; posting = 1 }

-- from no table to the tables of what a station sends, without rows
abbrev pub FoundsOutbound : State → State → Type 0
FoundsOutbound old new = HasEmpty no_schema old.now → HasEmpty outbound_schema new.now

-- from these to all tables of a station's records and their indexes, without rows
abbrev pub FoundsInbound : State → State → Type 0
FoundsInbound old new = HasEmpty outbound_schema old.now → HasEmpty station_schema new.now

-- from no table to all of them, without rows
abbrev pub Founds : State → State → Type 0
Founds old new = HasEmpty no_schema old.now → HasEmpty station_schema new.now

-- records that hold nothing, of the station of this party at these hubs
abbrev pub new_records : Party → List Party → Stored
new_records party hubs = nothing_stored (origin_of party hubs)

-- from tables without rows to these
abbrev pub Starts : Party → List Party → State → State → Type 0
Starts party hubs old new =
    HasEmpty station_schema old.now → HoldsRows first_rows new.now (new_records party hubs)

-- from no table to these
abbrev pub NewRecords : Party → List Party → Database → Database → Type 0
NewRecords party hubs old new =
    HasEmpty no_schema old → HoldsRows first_rows new (new_records party hubs)
