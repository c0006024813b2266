-- What a plan changes in the tables of a station's records.
use Rattle.std.specs.Prelude.{ℕ, Result, IfOk, OnErr}
use Rattle.sqlite.specs.Effect.{Database}
use Rattle.sqlite.specs.State.{State, HasCleanDisk, KeepsCommit, Survives}
use Rattle.sql_rows.specs.Kept.{Wrote, Committed, Stays, MayBecome}
use Rattle.x12_station.specs.Plan.{Commit, Change, Submits, Files, Agrees, TakesNumbers, changed, stored_after}
use Rattle.x12_station.specs.Stored.{Stored, row_of_entry}
use Rattle.x12_station_records.specs.StationChange.{HasNextPosting, HasNextSet, RisesBySeq, arrival_of, RisesByNumber, SetsOnce}
use Rattle.x12_station_records.specs.StationNumbers.{newest_version}
use Rattle.x12_station_records.specs.StationTables.{HasTablesOf}
use Rattle.x12_station_records.specs.declared.station_committing.NextRows.{NextRows}

-- the tables of this version hold these records, and the next rows get these numbers
pub record HoldsRowsOf (version : ℕ) (next : NextRows) (db : Database) (s : Stored) : Type 0 where
  pub has : HasTablesOf version next.agreement db s
  pub sets : HasNextSet next.set s
  pub postings : HasNextPosting next.posting s

-- the same, of the newest version
abbrev pub HoldsRows : NextRows → Database → Stored → Type 0
HoldsRows = HoldsRowsOf newest_version

-- A change fits the records: a submission's control number or an arrival's number is above all, and
-- no place is that of two transaction sets.
abbrev pub FitsIn : ℕ → Change → Stored → Type 0
FitsIn seq (Submits e) s = RisesByNumber (row_of_entry seq e) s
FitsIn seq (Files k settled) s = RisesBySeq (arrival_of seq k.filed) s × SetsOnce s
FitsIn seq (Agrees a) s = Unit {0}
FitsIn seq TakesNumbers s = Unit {0}

-- What the tables hold changes so, and the next rows get other numbers.
abbrev pub Makes : ℕ → Change → NextRows → NextRows → State → State → Type 0
Makes seq change from to old new = (s : Stored) → FitsIn seq change s → HoldsRows from old.now s
    → HoldsRows to new.now (changed seq change s)

-- What the tables hold changes as a plan says.
abbrev pub FollowsCommit : Commit → NextRows → NextRows → Database → Database → Type 0
FollowsCommit plan from to old new = (s : Stored) → FitsIn plan.seq plan.change s
    → HoldsRows from old s → HoldsRows to new (stored_after plan s)

-- A part of a transaction that tells a value: where it is done, the change is made; nothing is
-- committed, and a crash leaves what it left before.
pub record IsPartWith {A E : Type 0} (Change : A → State → State → Type 0) (r : Result A E)
    (old new : State) : Type 0 where
  pub wrote : HasCleanDisk new → IfOk r (λ a. Wrote (Change a) old new)
  pub keeps : HasCleanDisk new → KeepsCommit old new
  pub survives : Survives old new (λ _. ⊥)

-- A transaction that tells a value: the change is committed where it answers Ok, and nothing is
-- changed where it doesn't; a crash leaves what it left before, or the change.
pub record IsWholeWith {A E : Type 0} (Change : A → Database → Database → Type 0) (r : Result A E)
    (old new : State) : Type 0 where
  pub done : HasCleanDisk new → IfOk r (λ a. Committed (Change a) old new)
  pub kept : HasCleanDisk new → OnErr r (Stays old new)
  pub crash : Survives old new (MayBecome (λ from to. (a : A) × Change a from to) old)
