-- What a query leaves of a database, and what a statement in a transaction does.
use Rattle.std.specs.Prelude.{◌≡◌, ℕ, List, IsTrue, Result, Ok, OnOk, OnErr}
use Rattle.sqlite.specs.Order.{Row}
use Rattle.sqlite.specs.Effect.{Database}
use Rattle.sqlite.specs.Tree.{Trees}
use Rattle.sqlite.specs.State.{State, Executes, HasCleanDisk, KeepsCommit, Survives}

-- what was committed stays; outside a transaction it is what is seen
pub record Stays (old new : State) : Type 0 where
  pub was_open : IsTrue new.is_open → IsTrue old.is_open
  pub committed : IsTrue new.is_open → new.committed ≡ old.committed
  pub now : old.now ≡ old.committed → IsTrue new.is_open → new.now ≡ old.now

-- a statement ran inside a transaction, which goes on
pub record RanInside (sql : List ℕ) (params : Row) (old new : State) : Type 0 where
  pub count : ℕ
  pub ran : Executes sql params old new (Ok count)
  pub inside : IsTrue new.in_transaction
  pub was_open : IsTrue old.is_open
  pub is_open : IsTrue new.is_open

-- a part of a transaction was written, with this change, and the transaction goes on
pub record Wrote (Change : State → State → Type 0) (old new : State) : Type 0 where
  pub change : Change old new
  pub inside : IsTrue new.in_transaction
  pub was_open : IsTrue old.is_open
  pub is_open : IsTrue new.is_open

-- A part of a transaction: where it is done, the change is made; nothing is committed, and a crash
-- leaves what it left before.
pub record IsPart {A E : Type 0} (Change : State → State → Type 0) (r : Result A E)
    (old new : State) : Type 0 where
  pub wrote : HasCleanDisk new → OnOk r (Wrote Change old new)
  pub keeps : HasCleanDisk new → KeepsCommit old new
  pub survives : Survives old new (λ _. ⊥)

-- a transaction was committed with this change
pub record Committed (Change : Database → Database → Type 0) (old new : State) : Type 0 where
  pub was_open : IsTrue old.is_open
  pub is_open : IsTrue new.is_open
  pub change : Change old.now new.now
  pub settled : new.now ≡ new.committed

-- what a change may leave on the disk, where the store is open
abbrev pub MayBecome : (Database → Database → Type 0) → State → Trees → Type 0
MayBecome Change old db =
    IsTrue old.is_open × ((after : Database) × Change old.now after × (db ≡ after.trees))

-- A transaction as a whole: the change is committed where it answers Ok, and nothing is changed where
-- it doesn't; a crash leaves what it left before, or the change.
pub record IsWhole {A E : Type 0} (Change : Database → Database → Type 0) (r : Result A E)
    (old new : State) : Type 0 where
  pub done : HasCleanDisk new → OnOk r (Committed Change old new)
  pub kept : HasCleanDisk new → OnErr r (Stays old new)
  pub crash : Survives old new (MayBecome Change old)
