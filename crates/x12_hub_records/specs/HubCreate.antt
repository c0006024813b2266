-- What making the tables of a hub's records does.
use Rattle.sqlite.specs.Effect.{Database}
use Rattle.sqlite.specs.State.{State}
use Rattle.x12_envelopes.specs.declared.party.Party.{Party}
use Rattle.x12_hub.specs.Stored.{hub_nothing_stored}
use Rattle.x12_tables.specs.Schema.{HasEmpty, no_schema}
use Rattle.x12_hub_records.specs.HubSchema.{hub_schema}
use Rattle.x12_hub_records.specs.HubTables.{HasHubTables}

-- from no table to the four tables of a hub's records, without rows
abbrev pub FoundsHub : State → State → Type 0
FoundsHub old new = HasEmpty no_schema old.now → HasEmpty hub_schema new.now

-- from tables without rows to records of the hub of this party that hold nothing
abbrev pub StartsHub : Party → State → State → Type 0
StartsHub party old new =
    HasEmpty hub_schema old.now → HasHubTables 0 new.now (hub_nothing_stored party)

-- from no table to these
abbrev pub NewHubRecords : Party → Database → Database → Type 0
NewHubRecords party old new =
    HasEmpty no_schema old → HasHubTables 0 new (hub_nothing_stored party)
