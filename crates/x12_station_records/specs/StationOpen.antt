-- The open submissions of a station's records, put together one after the other.
use Rattle.std.specs.Prelude.{if◌then◌else◌, ◌≡◌, ◌<◌, ◌≤◌, ◌+◌, ◌==◌, ◌&&◌, nat_le, ℕ, Bool, true, List, [], ◌∷◌, ◌++◌, map, filter, option_to_list, All}
use Rattle.std.specs.List.{list_all}
use Rattle.sqlite.specs.Order.{Row, column}
use Rattle.sql_rows.specs.Keyed.{number_in}
use Rattle.x12_envelopes.specs.declared.party.Party.{Party}
use Rattle.x12_numbers.specs.Book.{Numbers}
use Rattle.x12_outbound.specs.Entry.{InterchangeRow, GroupRow, entry_row, row_is_open, submission_of_entry}
use Rattle.x12_outbound.specs.Fate.{is_pending}
use Rattle.x12_outbound.specs.Ledger.{AreInOrder}
use Rattle.x12_station.specs.Record.{HasNoneOut}
use Rattle.x12_station.specs.Stored.{Stored, StoredSet, IsNumberedBy}
use Rattle.x12_station_records.specs.StationEntries.{entry_numbered}
use Rattle.x12_station_records.specs.declared.station_loading.Opened.{Opened}

-- the number in a row
abbrev pub number_shown : Row → ℕ
number_shown r = number_in (column r 0)

-- the numbers of the submissions of pending sets, one for each set
abbrev pub open_numbers : List StoredSet → List ℕ
open_numbers sets = map (λ t. t.icn) (filter (λ t. is_pending t.fate) sets)

-- the submissions of these numbers, each once where a number stands behind itself; `least` is one
-- above the number before them
abbrev pub entries_by : Stored → ℕ → List ℕ → List InterchangeRow
entries_by s least [] = []
entries_by s least (n ∷ ns) =
    if n + 1 == least then entries_by s least ns
    else option_to_list (entry_numbered s n) ++ entries_by s (n + 1) ns

-- the numbers of groups are within these
abbrev pub are_between : ℕ → ℕ → List GroupRow → Bool
are_between least most groups = list_all (λ g. nat_le least g.number && nat_le g.number most) groups

-- Open submissions that can be sent, by rising number, whose numbers were used.
pub record AreOpen (book : Numbers) (es : List InterchangeRow) : Type 0 where
  pub in_order : (me : Party) → AreInOrder (map (submission_of_entry me) es)
  pub used : All (IsNumberedBy book) es
  pub laid : All HasNoneOut es
  pub pending : All (λ e. row_is_open e ≡ true) es

-- the numbers of submissions are below the first, and those of their groups below the second
pub record AreBelow (icn gcn : ℕ) (es : List InterchangeRow) : Type 0 where
  pub numbers : All (λ e. e.icn < icn) es
  pub groups : All (λ e. All (λ g. g.number < gcn) e.groups) es

-- what was put together so far
pub record IsOpened (book : Numbers) (o : Opened) : Type 0 where
  pub are_open : AreOpen book (map entry_row o.entries.items)
  pub below : AreBelow o.icn o.gcn (map entry_row o.entries.items)

-- an open submission whose numbers were used, and are not below these
pub record MayFollow (book : Numbers) (icn gcn : ℕ) (e : InterchangeRow) : Type 0 where
  pub number : icn ≤ e.icn
  pub used : e.icn ≤ book.interchange
  pub groups : are_between gcn book.group e.groups ≡ true
  pub pending : row_is_open e ≡ true

-- a submission was put behind the others, and the next one's number has to be above its own
pub record Pushes (e : InterchangeRow) (old new : Opened) : Type 0 where
  pub entries :
      map entry_row new.entries.items ≡ map entry_row old.entries.items ++ e ∷ []
  pub next : new.icn ≡ e.icn + 1
