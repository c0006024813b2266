-- Parts of a transaction that write many rows of a station's tables.
use Rattle.std.specs.Prelude.{ℕ, Bool, ◌&&◌, List, [], ◌∷◌, ◌++◌, IsTrue, Result, IfOk, bytes_eq}
use Rattle.sqlite.specs.State.{State, HasCleanDisk, KeepsCommit, Survives}
use Rattle.sql_rows.specs.Kept.{Wrote}
use Rattle.x12_acks.specs.Accepted.{AcceptedSet}
use Rattle.x12_acks.specs.Submission.{TransactionSetKey}
use Rattle.x12_inbound.specs.Arrival.{Filing}
use Rattle.x12_judge.specs.Agreement.{TradingAgreement}
use Rattle.x12_outbound.specs.Entry.{InterchangeRow}
use Rattle.x12_outbound.specs.declared.fate.Fate.{Fate}
use Rattle.x12_station.specs.Plan.{Submits, Files, changed}
use Rattle.x12_station.specs.Station.{agreed, each_once}
use Rattle.x12_station.specs.Stored.{Stored, StoredSet, row_of_entry}
use Rattle.x12_station_records.specs.StationChange.{HasNextSet, RisesByNumber, HasNextPosting, RisesBySeq, arrival_of, SetsOnce, with_pairs}
use Rattle.x12_station_records.specs.StationTables.{HasTables}

-- A part of a transaction that goes on, perhaps with no statement: where it is done, the change is
-- made, which may tell of its value; nothing is committed, and a crash leaves what it left before.
pub record PartGoesOn {A E : Type 0} (Change : A → State → State → Type 0) (r : Result A E)
    (old new : State) : Type 0 where
  pub wrote : HasCleanDisk new → IsTrue old.in_transaction → IsTrue old.is_open
      → IfOk r (λ a. Wrote (Change a) old new)
  pub keeps : HasCleanDisk new → KeepsCommit old new
  pub survives : Survives old new (λ _. ⊥)

-- transaction sets more
abbrev pub with_stored_sets : List StoredSet → Stored → Stored
with_stored_sets rows s = record s { sets = s.sets ++ rows }

-- What the tables hold has these transaction sets more, of which the first got the first number,
-- and the second number is the next.
abbrev pub AddsSets : ℕ → List StoredSet → ℕ → State → State → Type 0
AddsSets from rows to old new = (next : ℕ) (s : Stored) → HasNextSet from s
    → HasTables next old.now s
    → HasTables next new.now (with_stored_sets rows s) × HasNextSet to (with_stored_sets rows s)

-- What the tables hold has this submission more, with its transaction sets.
abbrev pub SubmitsAll : ℕ → InterchangeRow → ℕ → ℕ → State → State → Type 0
SubmitsAll seq e from to old new = (next : ℕ) (s : Stored) → HasNextSet from s
    → RisesByNumber (row_of_entry seq e) s → HasTables next old.now s
    → HasTables next new.now (changed seq (Submits e) s) × HasNextSet to (changed seq (Submits e) s)

-- What the tables hold has these postings more, of which the first got the first number, and the
-- second number is the next.
abbrev pub with_postings : List AcceptedSet → Stored → Stored
with_postings postings s = record s { postings = s.postings ++ postings }

abbrev pub AddsPostings : ℕ → List AcceptedSet → ℕ → State → State → Type 0
AddsPostings from postings to old new = (next : ℕ) (s : Stored) → HasNextPosting from s
    → HasTables next old.now s
    → HasTables next new.now (with_postings postings s)
    × HasNextPosting to (with_postings postings s)

-- What the tables hold has this first arrival more, with its postings, and these transaction sets
-- are settled.
abbrev pub FilesAll :
    ℕ → Filing → List (TransactionSetKey × Fate) → ℕ → ℕ → State → State → Type 0
FilesAll seq k settled from to old new = (next : ℕ) (s : Stored) → HasNextPosting from s
    → RisesBySeq (arrival_of seq k.filed) s → SetsOnce s → HasTables next old.now s
    → HasTables next new.now (changed seq (Files k settled) s)
    × HasNextPosting to (changed seq (Files k settled) s)

-- the same GS01 and ST01
abbrev pub is_same_pair : List ℕ × List ℕ → List ℕ × List ℕ → Bool
is_same_pair p q = bytes_eq p.0 q.0 && bytes_eq p.1 q.1

-- What the tables hold of the last agreement is these pairs, each once, and then also this one; the
-- first number was the next, and the second one is.
abbrev pub AddsPair :
    TradingAgreement → List (List ℕ × List ℕ) → List ℕ × List ℕ → ℕ → ℕ → State → State → Type 0
AddsPair a before pair from to old new =
    (s : Stored) → HasTables from old.now (with_pairs a (each_once before) s)
    → HasTables to new.now (with_pairs a (each_once (before ++ pair ∷ [])) s)

-- What the tables hold of the last agreement is no pair, and then these, each once.
abbrev pub AddsPairs : TradingAgreement → ℕ → List (List ℕ × List ℕ) → ℕ → State → State → Type 0
AddsPairs a from pairs to old new =
    (s : Stored) → HasTables from old.now (with_pairs a [] s)
    → HasTables to new.now (with_pairs a (each_once pairs) s)

-- What the tables hold has this agreement in place of its partner's.
abbrev pub AgreesAll : TradingAgreement → ℕ → ℕ → State → State → Type 0
AgreesAll a from to old new = (s : Stored) → HasTables from old.now s
    → HasTables to new.now (record s { agreements = agreed a s.agreements })
