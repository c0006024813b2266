-- What records in memory hold.
use Rattle.std.specs.Prelude.{ℕ, List, map, flat_map, All, AllPairs, Option, ◌<◌, ◌==◌, ◌&&◌, not, Bool, Some, None, if◌then◌else◌}
use Rattle.std.specs.List.{list_any}
use Rattle.x12_envelopes.specs.declared.party.Party.{Party}
use Rattle.x12_judge.specs.Agreement.{agreement_view, is_same_party}
use Rattle.x12_acks.specs.Submission.{TransactionSetKey}
use Rattle.x12_outbound.specs.declared.fate.Fate.{Fate}
use Rattle.x12_outbound.specs.Entry.{InterchangeRow, entry_row, row_is_open, submission_of_entry}
use Rattle.x12_outbound.specs.Ledger.{AreInOrder}
use Rattle.x12_inbound.specs.Filing.{FiledInterchange, filed_under}
use Rattle.x12_station.specs.declared.arrivals.NumberedArrival.{NumberedArrival}
use Rattle.x12_inbound.specs.Posting.{posting_view}
use Rattle.x12_station.specs.declared.memory.MemoryRecords.{MemoryRecords}
use Rattle.x12_station.specs.declared.submissions.NumberedEntry.{NumberedEntry}
use Rattle.x12_station.specs.Stored.{Stored, StoredArrival, rows_of_entry, row_of_entry, IsSound, is_group_named}
use Rattle.x12_station.specs.Record.{IsWholeEntry, owner_view}
use Rattle.x12_station.specs.Plan.{entry_settled, entry_settled_by}

-- a partner's qualifier and identifier, and an interchange number (ISA13)
abbrev pub ArrivalKey : Type 0
ArrivalKey = List ℕ × List ℕ × ℕ

-- an arrival, under its partner and number
abbrev pub arrival_view : ArrivalKey × NumberedArrival → StoredArrival
arrival_view e = record {
  seq = e.1.seq;
  filed = filed_under (record { qualifier = e.0.0; id = e.0.1 }) e.0.2 e.1.filed;
}

abbrev pub filed_of : List (ArrivalKey × NumberedArrival) → List FiledInterchange
filed_of es = map (λ e. (arrival_view e).filed) es

-- a submission, under its number among submissions and first arrivals
pub record NumberedRow : Type 0 where
  pub seq : ℕ
  pub entry : InterchangeRow

abbrev pub numbered_row : NumberedEntry → NumberedRow
numbered_row n = record { seq = n.seq; entry = entry_row n.entry }

abbrev pub numbered_settled : TransactionSetKey × Fate → NumberedRow → NumberedRow
numbered_settled t n = record n { entry = entry_settled t n.entry }

abbrev pub numbered_settled_by : List (TransactionSetKey × Fate) → NumberedRow → NumberedRow
numbered_settled_by ts n = record n { entry = entry_settled_by ts n.entry }

-- the submissions' entries
abbrev pub entries_in : List NumberedRow → List InterchangeRow
entries_in rows = map (λ n. n.entry) rows

-- their control numbers rise
abbrev pub RowsRise : List NumberedRow → Type 0
RowsRise rows = AllPairs (λ n m. n.entry.icn < m.entry.icn) rows

-- the numbers of submissions rise, and those of arrivals
abbrev pub SeqsRise : List NumberedRow → Type 0
SeqsRise rows = AllPairs (λ n m. n.seq < m.seq) rows

abbrev pub ArrivalsRise : List StoredArrival → Type 0
ArrivalsRise rows = AllPairs (λ r q. r.seq < q.seq) rows

-- they can be sent, each before those behind it
abbrev pub AreOrdered : List NumberedRow → Type 0
AreOrdered rows = (me : Party) → AreInOrder (map (submission_of_entry me) (entries_in rows))

-- a submission of this number, and one to this partner with this group, of which no set is pending
abbrev pub is_closed_numbered : ℕ → InterchangeRow → Bool
is_closed_numbered icn e = e.icn == icn && not (row_is_open e)

abbrev pub is_closed_with : Party → List ℕ → ℕ → InterchangeRow → Bool
is_closed_with partner functional gcn e =
    is_same_party e.receiver partner && list_any (is_group_named functional gcn) e.groups
    && not (row_is_open e)

-- what passes a test
abbrev pub only_if : {X : Type 0} → (X → Bool) → X → Option X
only_if p x = if p x then Some x else None

-- what is held
abbrev pub rows_in : MemoryRecords → List NumberedRow
rows_in r = map numbered_row r.submitted.items

abbrev pub memory_view : MemoryRecords → Stored
memory_view r = record {
  origin = owner_view r.owner;
  book = r.book;
  seq = r.seq;
  handed = 0;
  agreements = map agreement_view r.agreements.items;
  submitted = map (λ n. row_of_entry n.seq n.entry) (rows_in r);
  sets = flat_map rows_of_entry (entries_in (rows_in r));
  arrived = map arrival_view r.arrivals.entries;
  postings = map posting_view r.postings.items;
}

-- what is held was written by a station, and each submission is whole
pub record IsKeptWhole (r : MemoryRecords) : Type 0 where
  pub sound : IsSound (memory_view r)
  pub whole : All IsWholeEntry (entries_in (rows_in r))
