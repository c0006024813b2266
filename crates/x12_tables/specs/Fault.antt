-- The fault that an error of the database, or of its tables, is.
use Rattle.std.specs.Prelude.{◌≡◌, ◌⊎◌, ℕ, List, [], Result, Err, codes}
use Rattle.sqlite.specs.State.{State, HasCleanDisk, FailsToQuery}
use Rattle.sqlite.specs.declared.error.Error.{Error}
use Rattle.sqlite.specs.declared.error.Error.TheVariants.{SqliteFailure, IntegralValueOutOfRange}
use Rattle.sqlite.specs.declared.error.ErrorCode.TheVariants.{OutOfMemory}
use Rattle.x12_envelopes.specs.declared.party.Party.{Party}
use Rattle.x12_tables.specs.declared.fault.RecordsFault.{RecordsFault}
use Rattle.x12_tables.specs.declared.fault.RecordsFault.TheVariants.{Memory, Store, NotOurs, OldVersion, OtherParty}
use Rattle.x12_tables.specs.declared.fault.TableFault.{TableFault}
use Rattle.x12_tables.specs.declared.fault.TableFault.TheVariants as table

-- the number of a refusal
abbrev pub records_fault_number : RecordsFault → List ℕ
records_fault_number NotOurs = codes "Q1"
records_fault_number Store = codes "Q2"
records_fault_number Memory = codes "Q3"
records_fault_number (OldVersion version) = codes "Q4"
records_fault_number (OtherParty found wanted) = codes "Q5"

abbrev pub fault_of_error : Error → RecordsFault
fault_of_error (SqliteFailure OutOfMemory) = Memory
fault_of_error _ = Store

abbrev pub table_fault_of : Error → TableFault
table_fault_of (SqliteFailure OutOfMemory) = table.Memory
table_fault_of _ = table.Store

abbrev pub fault_of_table : TableFault → RecordsFault
fault_of_table table.NotOurs = NotOurs
fault_of_table (table.OldVersion version) = OldVersion version
fault_of_table table.Store = Store
fault_of_table table.Memory = Memory

abbrev pub error_of_table : TableFault → Error
error_of_table table.Memory = SqliteFailure OutOfMemory
error_of_table _ = IntegralValueOutOfRange 0

-- a fault of the rows behind the one of the version
abbrev pub fault_of_rows : TableFault → RecordsFault
fault_of_rows table.Memory = Memory
fault_of_rows _ = Store

-- the tables are refused as those of this older version, or memory was missing
abbrev pub IsOldVersion : ℕ → TableFault → Type 0
IsOldVersion version fault = (fault ≡ table.OldVersion version) ⊎ (fault ≡ table.Memory)

-- where the refusal names two parties, the records aren't those that were asked for
abbrev pub RefusesOthers : {A : Type 0} → Type 0 → Result A RecordsFault → State → Type 0
RefusesOthers Own r new =
    (found wanted : Party) → r ≡ Err (OtherParty found wanted) → HasCleanDisk new → Own → ⊥

-- a query without parameters failed, and the fault tells its error
abbrev pub TellsFailure : List ℕ → State → State → TableFault → Type 0
TellsFailure sql old new fault =
    (e : Error) × (fault ≡ table_fault_of e) × FailsToQuery sql [] old new e
