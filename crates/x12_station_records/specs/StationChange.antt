-- What the parts of a commit change in the tables of a station's records.
use Rattle.std.specs.Prelude.{◌≡◌, ◌<◌, ◌≤◌, ℕ, List, [], ◌∷◌, ◌++◌, ◌+◌, length, map, filter, AllPairs}
use Rattle.sqlite.specs.State.{State}
use Rattle.sql_rows.specs.Keyed.{RisesFrom}
use Rattle.x12_acks.specs.Accepted.{AcceptedSet}
use Rattle.x12_acks.specs.Submission.{TransactionSetKey}
use Rattle.x12_envelopes.specs.declared.party.Party.{Party}
use Rattle.x12_judge.specs.Agreement.{TradingAgreement}
use Rattle.x12_numbers.specs.Book.{Numbers}
use Rattle.x12_inbound.specs.Filing.{FiledInterchange}
use Rattle.x12_outbound.specs.Entry.{GroupRow, SetRow}
use Rattle.x12_outbound.specs.declared.fate.Fate.{Fate}
use Rattle.x12_station.specs.Plan.{row_settled, rows_settled}
use Rattle.x12_station.specs.Station.{of_others}
use Rattle.x12_station.specs.Stored.{Stored, StoredSubmission, StoredSet, StoredArrival, is_row_of}
use Rattle.x12_station_records.specs.StationTables.{HasTables, by_seq}

-- What the tables hold changes from these records to those, where what it needs holds of them.
abbrev pub Turns : (Stored → Stored) → (Stored → Type 0) → State → State → Type 0
Turns change Needs old new =
    (next : ℕ) (s : Stored) → Needs s → HasTables next old.now s → HasTables next new.now (change s)

-- other last numbers
abbrev pub with_last_numbers : Numbers → ℕ → Stored → Stored
with_last_numbers book seq s = record s { book = book; seq = seq }

-- What the tables hold changes so, and a row of an agreement got this number, the next.
abbrev pub Enters : ℕ → (Stored → Stored) → (Stored → Stored) → State → State → Type 0
Enters at from to old new =
    (s : Stored) → HasTables at old.now (from s) → HasTables (at + 1) new.now (to s)

-- a partner has no agreement
abbrev pub withdrawn : Party → Stored → Stored
withdrawn partner s = record s { agreements = of_others partner s.agreements }

-- an agreement with these pairs in place of its own, behind the others
abbrev pub with_pairs : TradingAgreement → List (List ℕ × List ℕ) → Stored → Stored
with_pairs a pairs s = record s { agreements = s.agreements ++ record a { pairs = pairs } ∷ [] }

-- a submission more, without its transaction sets
abbrev pub with_submission : StoredSubmission → Stored → Stored
with_submission r s = record s { submitted = s.submitted ++ r ∷ [] }

-- the control numbers of the submissions rise still
abbrev pub RisesByNumber : StoredSubmission → Stored → Type 0
RisesByNumber r s = AllPairs (λ p q. p.icn < q.icn) (s.submitted ++ r ∷ [])

-- the row of a transaction set, by its own place and that of its group
abbrev pub set_of : ℕ → ℕ × GroupRow → ℕ × SetRow → StoredSet
set_of icn g t = record {
  icn = icn;
  group = g.0;
  set = t.0;
  functional = g.1.functional;
  gcn = g.1.number;
  number = t.1.number;
  fate = t.1.fate;
}

-- a transaction set more
abbrev pub with_stored_set : StoredSet → Stored → Stored
with_stored_set t s = record s { sets = s.sets ++ t ∷ [] }

-- the number is the place of the next transaction set
abbrev pub HasNextSet : ℕ → Stored → Type 0
HasNextSet at s = at ≡ 1 + length s.sets

-- a transaction set has this fate
abbrev pub with_stored_fate : TransactionSetKey → Fate → Stored → Stored
with_stored_fate k fate s = record s { sets = map (row_settled k fate) s.sets }

-- transaction sets have these fates, one after the other
abbrev pub with_fates : List (TransactionSetKey × Fate) → Stored → Stored
with_fates settled s = record s { sets = rows_settled settled s.sets }

-- no place is that of two transaction sets
abbrev pub SetsOnce : Stored → Type 0
SetsOnce s = (k : TransactionSetKey) → length (filter (is_row_of k) s.sets) ≤ 1

abbrev pub arrival_of : ℕ → FiledInterchange → StoredArrival
arrival_of seq filed = record { seq = seq; filed = filed }

-- a first arrival more, without its postings
abbrev pub with_arrival : StoredArrival → Stored → Stored
with_arrival r s = record s { arrived = s.arrived ++ r ∷ [] }

-- the numbers of the first arrivals rise still
abbrev pub RisesBySeq : StoredArrival → Stored → Type 0
RisesBySeq r s = RisesFrom 0 (map by_seq (s.arrived ++ r ∷ []))

-- a posting more
abbrev pub with_posting : AcceptedSet → Stored → Stored
with_posting p s = record s { postings = s.postings ++ p ∷ [] }

-- the number is the place of the next posting
abbrev pub HasNextPosting : ℕ → Stored → Type 0
HasNextPosting at s = at ≡ 1 + length s.postings
