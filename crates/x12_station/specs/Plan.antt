-- What one commit changes in a station's records.
use Rattle.x12_numbers.specs.Book.{Numbers}
use Rattle.std.specs.Prelude.{ℕ, List, [], ◌∷◌, ◌++◌, map, ◌==◌, if◌then◌else◌}
use Rattle.x12_judge.specs.Agreement.{TradingAgreement}
use Rattle.x12_acks.specs.Submission.{TransactionSetKey}
use Rattle.x12_outbound.specs.declared.fate.Fate.{Fate}
use Rattle.x12_outbound.specs.Entry.{InterchangeRow, with_set_at}
use Rattle.x12_inbound.specs.Arrival.{Filing}
use Rattle.x12_station.specs.Station.{agreed}
use Rattle.x12_station.specs.Stored.{Stored, StoredSet, row_of_entry, rows_of_entry, is_row_of}

-- an interchange is submitted; one came for the first time, is kept with its reply and its postings,
-- and settles sets; an agreement is made; control numbers are used
pub data Change : Type 0 where
  Submits : InterchangeRow → Change
  Files : Filing → List (TransactionSetKey × Fate) → Change
  Agrees : TradingAgreement → Change
  TakesNumbers : Change

-- a commit: the last control numbers and the last number of a submission or first arrival as they
-- are to be, and the change
pub record Commit : Type 0 where
  pub book : Numbers
  pub seq : ℕ
  pub change : Change

-- the row with this fate, if it is that of the set
abbrev pub row_settled : TransactionSetKey → Fate → StoredSet → StoredSet
row_settled k fate t = if is_row_of k t then record t { fate = fate } else t

-- the rows once these sets have these fates, one after the other
unfoldable pub rows_settled : List (TransactionSetKey × Fate) → List StoredSet → List StoredSet
rows_settled [] sets = sets
rows_settled (t ∷ ts) sets = rows_settled ts (map (row_settled t.0 t.1) sets)

-- the entry once the set at this place has this fate, and once these sets have these fates, one
-- after the other
abbrev pub entry_settled : TransactionSetKey × Fate → InterchangeRow → InterchangeRow
entry_settled t e =
    if e.icn == t.0.icn
    then with_set_at (λ s. record s { fate = t.1 }) t.0.group t.0.set e
    else e

abbrev pub entry_settled_by : List (TransactionSetKey × Fate) → InterchangeRow → InterchangeRow
entry_settled_by [] e = e
entry_settled_by (t ∷ ts) e = entry_settled_by ts (entry_settled t e)

-- the records once the change is made; a submission or an arrival has this number
abbrev pub changed : ℕ → Change → Stored → Stored
changed seq (Submits e) s = record s {
  submitted = s.submitted ++ row_of_entry seq e ∷ [];
  sets = s.sets ++ rows_of_entry e;
}
changed seq (Files k settled) s = record s {
  arrived = s.arrived ++ record { seq = seq; filed = k.filed } ∷ [];
  postings = s.postings ++ k.postings;
  sets = rows_settled settled s.sets;
}
changed seq (Agrees a) s = record s { agreements = agreed a s.agreements }
changed seq TakesNumbers s = s

-- the records once the plan is committed
abbrev pub stored_after : Commit → Stored → Stored
stored_after plan s = record (changed plan.seq plan.change s) { book = plan.book; seq = plan.seq }
