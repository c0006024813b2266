-- What bringing a station's tables of an older version to the newest one does.
use Rattle.std.specs.Prelude.{◌≡◌, ◌⊎◌, ◌<◌, ℕ, List, IsTrue}
use Rattle.sqlite.specs.Effect.{Database}
use Rattle.sqlite.specs.State.{State}
use Rattle.sqlite_disk.specs.Disk.{MoreFaults}
use Rattle.x12_envelopes.specs.declared.party.Party.{Party}
use Rattle.x12_station.specs.Stored.{Stored}
use Rattle.x12_tables.specs.declared.fault.RecordsFault.{RecordsFault}
use Rattle.x12_tables.specs.declared.fault.RecordsFault.TheVariants.{Memory, Store}
use Rattle.x12_station_records.specs.StationAdopt.{IsOriginOf}
use Rattle.x12_station_records.specs.StationContent.{content_of}
use Rattle.x12_station_records.specs.StationNumbers.{first_version, newest_version}
use Rattle.x12_station_records.specs.StationPlan.{HoldsRows, HoldsRowsOf}
use Rattle.x12_station_records.specs.StationTaken.{WereLeftByStation}
use Rattle.x12_station_records.specs.declared.station_committing.NextRows.{NextRows}

-- from tables of some version to those of the newest, which hold the same records, where these are their
-- marks
abbrev pub Renews : ℕ → ℕ → Database → Database → Type 0
Renews noted era from to = (version : ℕ) (next : NextRows) (s : Stored) → s.origin.noted ≡ noted
    → s.origin.era ≡ era → HoldsRowsOf version next from s → HoldsRows next to s

-- From tables of an older version to those of the newest, which stand for the same records.
pub record Migrates (from to : Database) : Type 0 where
  pub version : ℕ
  pub older : version < newest_version
  pub next : NextRows
  pub held : HoldsRowsOf version next from (content_of from.trees)
  pub newest : HoldsRows next to (content_of from.trees)
  pub same : content_of to.trees ≡ content_of from.trees

-- Records of this party at these hubs were found in a database that is open. They were of this version:
-- of the newest, and stay as they were; or of an older one, and are of the newest now. They stand for
-- what they stood for.
pub record AreMigrated (version : ℕ) (party : Party) (hubs : List Party) (old new : State)
    : Type 0 where
  pub is_open : IsTrue new.is_open
  pub own : IsOriginOf party hubs (content_of old.now.trees).origin
  pub content : content_of new.now.trees ≡ content_of old.now.trees
  pub done : ((version ≡ newest_version) × (new.now ≡ old.now))
      ⊎ ((version < newest_version) × Migrates old.now new.now)

-- Why records that a station of this party at these hubs left, of any version, aren't migrated: memory
-- was missing, or the database failed.
abbrev pub RefusesToMigrate : Party → List Party → RecordsFault → State → State → Type 0
RefusesToMigrate party hubs fault old new = WereLeftByStation first_version party hubs old
    → (fault ≡ Memory) ⊎ (fault ≡ Store) ⊎ MoreFaults old.faults new.faults
