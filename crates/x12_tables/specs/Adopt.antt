-- What a call finds of a database that it only reads.
use Rattle.std.specs.Prelude.{◌≡◌, ◌⊎◌, ◌<◌, ◌^◌, ℕ, pos, false, None, Result, Err, IfOk, IfErr, IsErrAnd, IsTrue}
use Rattle.sqlite_disk.specs.Disk.{MoreFaults}
use Rattle.sqlite.specs.declared.types.Value.{Value}
use Rattle.sqlite.specs.declared.types.Value.TheVariants.{Int}
use Rattle.sqlite.specs.Effect.{Database, IsDatabase}
use Rattle.sqlite.specs.Schema.{Schema}
use Rattle.sqlite.specs.State.{State, HasCleanDisk, IsUnchanged, Survives}
use Rattle.sql_rows.specs.Kept.{Stays}

-- the database has this schema, and obeys it
pub record ObeysSchema (schema : Schema) (db : Database) : Type 0 where
  pub schema_is : db.schema ≡ schema
  pub sound : IsDatabase db

-- A call that only reads: what it answers is found in the database, which stays; where it fails,
-- what was committed stays. A crash leaves what it left before.
pub record Finds {A E : Type 0} (Found : Database → A → Type 0) (r : Result A E) (old new : State)
    : Type 0 where
  pub found : HasCleanDisk new → IfOk r (λ a. Found old.now a × IsUnchanged old new)
  pub stays : HasCleanDisk new → Stays old new
  pub mode : old.in_transaction ≡ false → new.in_transaction ≡ false
  pub survives : Survives old new (λ _. ⊥)

-- the store is open, and a query may take any number of steps
pub record IsAtRest (s : State) : Type 0 where
  pub is_open : IsTrue s.is_open
  pub unlimited : s.step_limit ≡ None

-- A call that takes what is there: where the store is ready and its database is such, a fault over a
-- clean disk is want of memory, or the device failed in the call.
pub record Takes {A E : Type 0} (Such : Database → Type 0) (memory : E) (r : Result A E)
    (old new : State) : Type 0 where
  pub taken : HasCleanDisk new → IsAtRest old → Such old.now
      → IfErr r (λ e. (e ≡ memory) ⊎ MoreFaults old.faults new.faults)

-- A call that refuses tables of an older version, over a clean disk: it names the version that they are
-- of, and of no others does it say so; and where the store is ready and its tables are older, it says so,
-- or memory was missing, or the device failed in the call.
pub record RefusesOlder {A E : Type 0} (Older : ℕ → Database → Type 0) (old_version : ℕ → E)
    (memory : E) (r : Result A E) (old new : State) : Type 0 where
  pub only : HasCleanDisk new → (version : ℕ) → r ≡ Err (old_version version)
      → Older version old.now
  pub older : HasCleanDisk new → IsAtRest old → (version : ℕ) → Older version old.now
      → IsErrAnd r (λ e. (e ≡ old_version version) ⊎ (e ≡ memory)
      ⊎ MoreFaults old.faults new.faults)

-- an error over what is such is want of memory
abbrev pub TakesRows : {A E : Type 0} → Type 0 → E → Result A E → Type 0
TakesRows Such memory r = IfErr r (λ e. Such → e ≡ memory)

-- a value is a number of 32 bits
abbrev pub IsNarrow : Value → Type 0
IsNarrow v = (n : ℕ) × (v ≡ Int (pos n)) × (n < 2 ^ 32)

-- a value is a number, and not negative
abbrev pub IsLong : Value → Type 0
IsLong v = (n : ℕ) × (v ≡ Int (pos n))

-- a value is a node's number
abbrev pub IsNodeNumber : Value → Type 0
IsNodeNumber v = (n : ℕ) × (v ≡ Int (pos n)) × (n < 2 ^ 16)
