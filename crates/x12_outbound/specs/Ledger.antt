-- The outbound ledger of a sender: its submitted interchanges in the order of their numbers, the
-- fate of each transaction set, and the schedule of sendings.
use Rattle.std.specs.Prelude.{ℕ, ◌≡◌, ◌<◌, Bool, true, false, ◌&&◌, not, nat_le, List, [], ◌∷◌, ◌++◌, map, filter, find, count_by, All, AllPairs, Option, Some, None, IfSome, if◌then◌else◌, ◌==◌, option_map, option_and_then}
use Rattle.x12_envelopes.specs.declared.party.Party.{Party}
use Rattle.x12_judge.specs.Agreement.{is_same_party}
use Rattle.x12_acks.specs.Submission.{Submission, TransactionSetKey, IsBefore}
use Rattle.x12_acks.specs.Evidence.{FinalFate}
use Rattle.x12_outbound.specs.Fate.{ended, is_pending, final_fate}
use Rattle.x12_outbound.specs.Entry.{SetRow, GroupRow, InterchangeRow, submission_of_entry, row_is_open, at_place, entry_row, set_row_at, with_set_at, IsSendable}
use Rattle.x12_outbound.specs.Matching.{SetNumbers}
use Rattle.x12_outbound.specs.declared.schedule.Schedule.{Schedule}
use Rattle.x12_outbound.specs.declared.row.Row.{Row}
use Rattle.x12_outbound.specs.declared.row.Change.{Change}
use Rattle.x12_outbound.specs.declared.row.Change.TheVariants.{Lift, Lay, Close}
use Rattle.x12_outbound.specs.Schedule.{sent_at, tick_seen}
use Rattle.x12_outbound.specs.Settling.{Fates}

-- an interchange, how often it was sent since the ledger was made, and the tick from which it is
-- due again
pub record LedgerRow : Type 0 where
  pub interchange : InterchangeRow
  pub schedule : Schedule

-- a ledger: its sender and the sender's hubs, the greatest tick seen, and the interchanges by
-- rising number
pub record OutboundLedger : Type 0 where
  pub me : Party
  pub hubs : List Party
  pub tick : ℕ
  pub rows : List LedgerRow

-- a ledger in memory: what it holds, and how many interchanges more it has room for
pub record LedgerInMemory : Type 0 where
  pub holds : OutboundLedger
  pub room : ℕ

-- what the code's row stands for
abbrev pub row_view : Row → LedgerRow
row_view r = record { interchange = entry_row r.entry; schedule = r.schedule }

-- the interchanges that were submitted by this sender
unfoldable pub submitted_by : Party → List LedgerRow → List Submission
submitted_by me rows = map (λ r. submission_of_entry me r.interchange) rows

abbrev pub ledger_submissions : OutboundLedger → List Submission
ledger_submissions v = submitted_by v.me v.rows

-- each interchange can be sent, and is before those that follow it
pub record AreInOrder (sent : List Submission) : Type 0 where
  pub sendable : All IsSendable sent
  pub before : AllPairs IsBefore sent

-- the interchange of this number
unfoldable pub interchange_in : List LedgerRow → ℕ → Option InterchangeRow
interchange_in rows icn =
    option_map (λ r. r.interchange) (find (λ r. r.interchange.icn == icn) rows)

abbrev pub interchange_numbered : OutboundLedger → ℕ → Option InterchangeRow
interchange_numbered v icn = interchange_in v.rows icn

-- the transaction set of this key
unfoldable pub row_in : Party → List LedgerRow → TransactionSetKey → Option SetRow
row_in me rows key =
    if is_same_party key.sender me then
    option_and_then (set_row_at key.group key.set) (interchange_in rows key.icn)
    else None

abbrev pub row_of : OutboundLedger → TransactionSetKey → Option SetRow
row_of v key = row_in v.me v.rows key

-- how each submitted transaction set fares
abbrev pub fates : OutboundLedger → Fates
fates v = λ key. option_map (λ s. s.fate) (row_of v key)

-- the numbers of the transaction set of this key
abbrev pub numbers_of_set : TransactionSetKey → InterchangeRow → GroupRow → SetRow → SetNumbers
numbers_of_set key e g s = record {
  key = key;
  receiver = e.receiver;
  functional = g.functional;
  group = g.number;
  set = s.number;
}

abbrev pub numbers_in_group : TransactionSetKey → InterchangeRow → GroupRow → Option SetNumbers
numbers_in_group key e g = option_map (numbers_of_set key e g) (at_place key.set g.sets)

unfoldable pub numbers_in : TransactionSetKey → InterchangeRow → Option SetNumbers
numbers_in key e = option_and_then (numbers_in_group key e) (at_place key.group e.groups)

unfoldable pub numbers_in_rows : Party → List LedgerRow → TransactionSetKey → Option SetNumbers
numbers_in_rows me rows key =
    if is_same_party key.sender me then
    option_and_then (numbers_in key) (interchange_in rows key.icn)
    else None

abbrev pub numbers_of : OutboundLedger → TransactionSetKey → Option SetNumbers
numbers_of v key = numbers_in_rows v.me v.rows key

-- the ledger with the transaction set of this key changed
abbrev pub with_set_of : (SetRow → SetRow) → TransactionSetKey → LedgerRow → LedgerRow
with_set_of f key r =
    if r.interchange.icn == key.icn then
    record r { interchange = with_set_at f key.group key.set r.interchange }
    else r

unfoldable pub with_row : (SetRow → SetRow) → TransactionSetKey → OutboundLedger → OutboundLedger
with_row f key v = record v { rows = map (with_set_of f key) v.rows }

-- lifted: out of the ledger, to be settled; laid back; closed with a final fate
abbrev pub lifted : SetRow → SetRow
lifted s = record s { is_out = true }

abbrev pub no_longer_out : SetRow → SetRow
no_longer_out s = record s { is_out = false }

abbrev pub closed : FinalFate → SetRow → SetRow
closed fate s = record s { fate = ended fate; is_out = false }

-- what the code's change does
abbrev pub set_row_changed : Change → SetRow → SetRow
set_row_changed Lift s = lifted s
set_row_changed Lay s = no_longer_out s
set_row_changed (Close fate) s = closed (final_fate fate) s

-- the interchanges' numbers rise
abbrev pub IcnsRise : List LedgerRow → Type 0
IcnsRise rows = AllPairs (λ r q. r.interchange.icn < q.interchange.icn) rows

-- pending and not out, so that it can be lifted; and lifted
abbrev pub can_be_lifted : Option SetRow → Bool
can_be_lifted None = false
can_be_lifted (Some s) = is_pending s.fate && not s.is_out

abbrev pub is_lifted : Option SetRow → Bool
is_lifted None = false
is_lifted (Some s) = is_pending s.fate && s.is_out

-- no transaction set is out
abbrev pub NoneIsOut : OutboundLedger → Type 0
NoneIsOut v = (key : TransactionSetKey) → IfSome (row_of v key) (λ s. s.is_out ≡ false)

-- how many interchanges are open
unfoldable pub open_interchanges : OutboundLedger → ℕ
open_interchanges v = count_by (λ r. row_is_open r.interchange) v.rows

-- the open interchanges alone
unfoldable pub open_alone : OutboundLedger → OutboundLedger
open_alone v = record v { rows = filter (λ r. row_is_open r.interchange) v.rows }

-- open, and due at this tick
abbrev pub row_is_due : ℕ → LedgerRow → Bool
row_is_due now r = row_is_open r.interchange && nat_le r.schedule.due now

-- the bytes of the interchanges that are due, by rising number
unfoldable pub bytes_due : ℕ → OutboundLedger → List (List ℕ)
bytes_due now v = map (λ r. r.interchange.bytes) (filter (row_is_due (tick_seen v.tick now)) v.rows)

-- an interchange sent once more if it is due
abbrev pub row_sent_if_due : ℕ → LedgerRow → LedgerRow
row_sent_if_due now r = if row_is_due now r then record r { schedule = sent_at now r.schedule } else r

-- the ledger after this tick: what was due was sent
unfoldable pub after_tick : ℕ → OutboundLedger → OutboundLedger
after_tick now v =
    let tick = tick_seen v.tick now in
    record v { tick = tick; rows = map (row_sent_if_due tick) v.rows }

-- an interchange may be added: it can be sent, and is after all that are held
pub record MayBeAdded (v : OutboundLedger) (e : InterchangeRow) : Type 0 where
  pub sendable : IsSendable (submission_of_entry v.me e)
  pub after : All (λ s. IsBefore s (submission_of_entry v.me e)) (ledger_submissions v)

-- the ledger with an interchange added
unfoldable pub with_interchange : InterchangeRow → Schedule → OutboundLedger → OutboundLedger
with_interchange e schedule v =
    record v { rows = v.rows ++ record { interchange = e; schedule = schedule } ∷ [] }

-- a ledger that holds nothing
unfoldable pub empty_ledger : Party → List Party → OutboundLedger
empty_ledger me hubs = record { me = me; hubs = hubs; tick = 0; rows = [] }
