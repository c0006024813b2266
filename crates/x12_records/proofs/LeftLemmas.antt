-- What a run of a station leaves in its files, and what the next one finds.
use Rattle.std.proofs.Common.{◌≡◌, ◌∙◌, [], ℕ, List, sym, ap, subst, inl, inr, arith, IsTrue}
use Rattle.std.proofs.Math.Logic.{∥∥₁_elim}
use Rattle.std.proofs.lemmas.List.Sorted.{IsPermutation-sym}
use Rattle.sqlite.specs.Effect.{Database}
use Rattle.sqlite.specs.Held.{AreDatabases}
use Rattle.sqlite.specs.State.{State, Opens}
use Rattle.sqlite.proofs.Callers.{one_permutation}
use Rattle.sqlite.proofs.Theorems.{opens_again}
use Rattle.sqlite_disk.specs.declared.Disk.{Ghosts}
use Rattle.sqlite_schema.specs.declared.schema.Schema.{Schema}
use Rattle.sqlite_store.specs.declared.store.FileStore.{FileStore}
use Rattle.sqlite_store.specs.FileStore.{state, view, recovers, files}
use Rattle.sqlite_pool.proofs.StateLemmas.{clean_is, may_leave_is}
use Rattle.sqlite_trees.proofs.Doubt.{no_doubt}
use Rattle.sqlite_trees.specs.Tree.{Trees}
use Rattle.sqlite_trees.specs.View.{IsClean}
use Rattle.sqlite_wal.specs.Files.{outcomes}
use Rattle.sqlite_wal.specs.Reads.{AreClean}
use Rattle.sqlite_wal.specs.Recovery.{Image}
use Rattle.sql_rows.specs.Keyed.{with_id}
use Rattle.x12_envelopes.specs.declared.party.Party.{Party}
use Rattle.x12_station.specs.Durable.{IsHistoryOf}
use Rattle.x12_station.specs.Stored.{Origin, Stored}
use Rattle.x12_station_records.specs.StationAdopt.{AreFoundAtStation}
use Rattle.x12_station_records.specs.StationContent.{content_of, IsValid}
use Rattle.x12_station_records.specs.StationMigrate.{AreMigrated}
use Rattle.x12_station_records.specs.StationNumbers.{newest_version}
use Rattle.x12_station_records.specs.StationPlan.{HoldsRowsOf}
use Rattle.x12_station_records.specs.StationSchema.{station_schema}
use Rattle.x12_station_records.specs.StationTables.{numbers_row}
use Rattle.x12_station_records.specs.declared.station_committing.NextRows.{NextRows}
use Rattle.x12_records.proofs.WrittenLemmas.{written_prop, history_of}
use Rattle.x12_records.specs.Left.{AreLeft, IsStations, IsWritten}

-- what `Unknown` and `Wary` name
abbrev pub nothing : Image
nothing = record { log = []; db = [] }

-- a station's tables have a row of numbers
no_numbers : (version : ℕ) (next : NextRows) (db : Trees) → db 0 ≡ [] → HoldsRowsOf version next (record { schema = station_schema; trees = db }) (content_of db) → ⊥
no_numbers version next db none holds =
    let n = holds.has.numbers in
    let one = one_permutation (with_id numbers_row (1, n.row)) (db 0) (IsPermutation-sym _ _ n.are.same) in
    absurd (let clash = sym none ∙ one in cc)

-- files that held nothing hold no station's records
pub nothing_left : AreLeft nothing
nothing_left db found version next holds = elim found.reads [
  | inl held ↦ absurd (omega (arith, held.3.found.present))
  | inr none ↦ absurd (no_numbers version next db (none.1.0 0 (omega arith)) holds)
]

-- files that a store may leave hold what it allows
pub next_left : {D : Type 0} {g : Ghosts D} (it : FileStore D g) → IsTrue (view it).is_numbered → AreDatabases (recovers it)
    → ((db : Trees) → recovers it db → IsStations db) → (image : Image) → (state it).may_leave image → AreLeft image
next_left it numbered sound ours image may db found version next holds =
    ∥∥₁_elim (opens_again it numbered sound image may) (written_prop (content_of db)) (λ held. let same = found.holds held.0 held.2 in subst IsStations (sym same) (ours held.0 held.1) version next holds)

abbrev both : {D : Type 0} → D → D → D × D
both log db = (log, db)

-- and so of its two files
pub left_files : {D : Type 0} {g : Ghosts D} (it : FileStore D g) (log db : D) → both log db ≡ files it → (IsClean (view it) → (image : Image) → (state it).may_leave image → AreLeft image)
    → AreClean g log db → (image : Image) → outcomes g log db image → AreLeft image
left_files {D} {g} it log db same left clean image out =
    let now : AreClean g (files it).0 (files it).1 = subst (λ (p : D × D). AreClean g p.0 p.1) same clean in
    left (no_doubt _ (clean_is it.pool ∙ now)) image (may_leave_is it.pool image now (subst (λ (p : D × D). outcomes g p.0 p.1 image) same out))

-- the schema of a station's tables is known
pub framed : (version : ℕ) (next : NextRows) (trees : Trees) (schema : Schema) (s : Stored) → schema ≡ station_schema → HoldsRowsOf version next (record { schema = schema; trees = trees }) s → HoldsRowsOf version next (record { schema = station_schema; trees = trees }) s
framed version next trees schema s is holds = subst (λ c. HoldsRowsOf version next (record { schema = c; trees = trees }) s) is holds

-- what was found in a database that is open, and tested, is the history of the station that was asked for
pub found_history : (me : Party) (hubs : List Party) (next : NextRows) (old new : State) → Opens old → IsStations old.committed.trees → IsValid next new → AreFoundAtStation me hubs old new
    → IsTrue new.is_open → IsHistoryOf me hubs (content_of new.now.trees)
found_history me hubs next old new opens ours valid found is_open =
    let all_same : new.now ≡ old.committed = found.same ∙ opens.clean in
    let holds = valid.holds is_open in
    let stations = subst (λ (d : Database). IsStations d.trees) (sym all_same) ours in
    let written = stations newest_version next (framed newest_version next new.now.trees new.now.schema (content_of new.now.trees) holds.has.schema holds) in
    let same = ap (λ (d : Database). (content_of d.trees).origin) found.same in
    history_of me hubs (content_of new.now.trees) (valid.sound is_open) (ap (λ (o : Origin). o.me) same ∙ found.own.0) (ap (λ (o : Origin). o.hubs) same ∙ found.own.1) written

-- what was found in a database, and brought to the newest version, is the history of the station that was asked for
pub migrated_history : (me : Party) (hubs : List Party) (version : ℕ) (next : NextRows) (old new : State) → Opens old → IsStations old.committed.trees → IsValid next new → AreMigrated version me hubs old new → IsHistoryOf me hubs (content_of new.now.trees)
migrated_history me hubs version next old new opens ours valid migrated =
    let stations : IsStations old.now.trees = subst (λ (d : Database). IsStations d.trees) (sym opens.clean) ours in
    let written : IsWritten (content_of old.now.trees) = elim migrated.done [
      | inl newest ↦ (let holds = subst (λ (d : Database). HoldsRowsOf newest_version next d (content_of d.trees)) newest.1 (valid.holds migrated.is_open) in
          stations newest_version next (framed newest_version next old.now.trees old.now.schema (content_of old.now.trees) holds.has.schema holds))
      | inr older ↦ stations older.1.version older.1.next (framed older.1.version older.1.next old.now.trees old.now.schema (content_of old.now.trees) older.1.held.has.schema older.1.held)
    ] in
    let origin = ap (λ (s : Stored). s.origin) migrated.content in
    history_of me hubs (content_of new.now.trees) (valid.sound migrated.is_open) (ap (λ (o : Origin). o.me) origin ∙ migrated.own.0) (ap (λ (o : Origin). o.hubs) origin ∙ migrated.own.1) (subst IsWritten (sym migrated.content) written)
