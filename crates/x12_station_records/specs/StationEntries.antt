-- A submission, put together from its row and the rows of its transaction sets.
use Rattle.std.specs.Prelude.{◌==◌, ℕ, List, [], ◌∷◌, Option, Some, None, find, option_map}
use Rattle.sqlite.specs.Order.{Row, column}
use Rattle.x12_envelopes.specs.declared.party.Party.{Party}
use Rattle.x12_outbound.specs.Entry.{InterchangeRow, submission_of_entry, IsSendable}
use Rattle.x12_station.specs.Record.{HasNoneOut}
use Rattle.x12_station.specs.Stored.{Stored, StoredSubmission, entries}
use Rattle.x12_tables.specs.Party.{bytes_in, party_in}
use Rattle.x12_station_records.specs.declared.station_outbound.Head.{Head}

-- the receiver and the bytes of a submission
pub record SubmissionHead : Type 0 where
  pub receiver : Party
  pub bytes : List ℕ

-- the head in a row of a receiver and bytes, what the code's value stands for, and that of a submission
abbrev pub head_shown : Row → SubmissionHead
head_shown r =
    record { receiver = party_in (bytes_in (column r 0)); bytes = bytes_in (column r 1) }

abbrev pub head_view : Head → SubmissionHead
head_view h = record { receiver = h.partner; bytes = h.bytes.items }

abbrev pub head_of : StoredSubmission → SubmissionHead
head_of r = record { receiver = r.receiver; bytes = r.bytes }

-- the head in the first row, if there is one
abbrev pub first_head : List Row → Option SubmissionHead
first_head [] = None
first_head (r ∷ rows) = Some (head_shown r)

-- the head of the submission of this number
abbrev pub head_numbered : Stored → ℕ → Option SubmissionHead
head_numbered s icn = option_map head_of (find (λ r. r.icn == icn) s.submitted)

-- the submission of this number, open or closed
abbrev pub entry_numbered : Stored → ℕ → Option InterchangeRow
entry_numbered s icn = find (λ e. e.icn == icn) (entries s)

-- an entry that can be sent, of which no transaction set is out
pub record IsFit (e : InterchangeRow) : Type 0 where
  pub sendable : (me : Party) → IsSendable (submission_of_entry me e)
  pub laid : HasNoneOut e
