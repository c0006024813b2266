-- What is supposed of the files that a station is opened over, which a run of a station leaves so.
use Rattle.std.specs.Prelude.{◌≡◌, ℕ, All}
use Rattle.sqlite.specs.Files.{HoldsDatabase, AreFoundIn}
use Rattle.sqlite_trees.specs.declared.store.Store.{Ghosts}
use Rattle.sqlite_trees.specs.Tree.{Trees}
use Rattle.sqlite_trees.specs.View.{IsClean}
use Rattle.sqlite_wal.specs.Recovery.{Image}
use Rattle.x12_profile.specs.X12.{x12}
use Rattle.x12_station.specs.Durable.{IsOwnSubmission, IsFiledRightly, IsAnsweredRightly, fared_entries, items_of}
use Rattle.x12_station.specs.History.{submissions, postings}
use Rattle.x12_station.specs.Stored.{Stored, entries, marks_of}
use Rattle.x12_station_records.specs.StationContent.{content_of}
use Rattle.x12_station_records.specs.StationPlan.{HoldsRowsOf}
use Rattle.x12_station_records.specs.StationSchema.{station_schema}
use Rattle.x12_station_records.specs.declared.station_committing.NextRows.{NextRows}

-- what an open finds in files that hold this
pub record IsFoundIn (image : Image) (db : Trees) : Type 0 where
  pub holds : (held : Trees) → HoldsDatabase image held → db ≡ held
  pub reads : AreFoundIn image db

-- The station that the records name wrote them: but for the form of the tables, which an open tests,
-- what IsHistoryOf says of that station's party and hubs.
pub record IsWritten (s : Stored) : Type 0 where
  pub fates : entries s ≡ fared_entries s.origin.me s.origin.hubs (items_of s)
  pub own : All (IsOwnSubmission s.origin.me) (submissions (items_of s))
  pub filed : All (λ r. IsFiledRightly r.filed) s.arrived
  pub answered : All (IsAnsweredRightly (marks_of s.origin) s.origin.me s.book) s.arrived
  pub posted : s.postings ≡ postings x12 (items_of s)

-- Where these are the tables of a station's records, of whatever version, the station that they name
-- wrote them.
abbrev pub IsStations : Trees → Type 0
IsStations db = (version : ℕ) (next : NextRows) →
    HoldsRowsOf version next (record { schema = station_schema; trees = db }) (content_of db) →
    IsWritten (content_of db)

-- Whatever database is found in the files: where it is a station's, the station that it names wrote
-- it.
abbrev pub AreLeft : Image → Type 0
AreLeft image = (db : Trees) → IsFoundIn image db → IsStations db

-- Whatever a stop leaves of the database in this store, over a clean disk: the station that its records
-- name wrote them.
abbrev pub LeavesStation : {S : Type 0} → Ghosts S → S → Type 0
LeavesStation g store = IsClean (g.view store) → (db : Trees) → g.recovers store db → IsWritten (content_of db)
