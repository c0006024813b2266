-- What the look-ups of a station's records answer.
use Rattle.std.specs.Prelude.{if◌then◌else◌, ◌≤◌, ◌==◌, ◌^◌, ℕ, pos, List, [], ◌∷◌, length, map, filter, find, nat_lt, Option}
use Rattle.sqlite.specs.declared.types.Value.TheVariants.{Int, Blob}
use Rattle.sqlite.specs.Order.{Row}
use Rattle.x12_inbound.specs.declared.filing.Filed.{Filed}
use Rattle.x12_inbound.specs.Filing.{FiledInterchange, reply_bytes}
use Rattle.x12_inbound.specs.Order.{InterchangeKey}
use Rattle.x12_inbound.specs.Register.{is_under}
use Rattle.x12_outbound.specs.declared.fate.Fate.{Fate}
use Rattle.x12_profile.specs.Edition.{Marks, edition_at}
use Rattle.x12_station.specs.History.{Item, Came}
use Rattle.x12_station.specs.Stored.{Stored, StoredSubmission, StoredArrival}
use Rattle.x12_station_records.specs.StationTables.{fate_number, reply_value}

-- a row that shows a fate
abbrev pub fate_shown : Fate → Row
fate_shown fate = Int (pos (fate_number fate)) ∷ []

-- a row that shows what is filed of an interchange
abbrev pub filed_shown : FiledInterchange → Row
filed_shown f = Blob f.bytes ∷ reply_value f.reply ∷ []

-- the bytes and the reply of what is filed, and those of the code's value
abbrev pub kept_of : FiledInterchange → List ℕ × Option (List ℕ)
kept_of f = (f.bytes, f.reply)

abbrev pub kept_in : Filed → List ℕ × Option (List ℕ)
kept_in f = (f.bytes.items, reply_bytes f.reply)

-- no partner's number is filed twice
abbrev pub FiledOnce : Stored → Type 0
FiledOnce s =
    (key : InterchangeKey) → length (filter (is_under key) (map (λ r. r.filed) s.arrived)) ≤ 1

-- a row that shows bytes
abbrev pub bytes_shown : List ℕ → Row
bytes_shown bytes = Blob bytes ∷ []

-- no control number is that of two submissions
abbrev pub SubmittedOnce : Stored → Type 0
SubmittedOnce s = (icn : ℕ) → length (filter (λ r. r.icn == icn) s.submitted) ≤ 1

-- the key by which a number is asked for: 0, which no row has, where SQLite has no such integer
abbrev pub asked_as : ℕ → ℕ
asked_as n = if nat_lt n (2 ^ 63) then n else 0

-- the submission of this number of the history, and the first arrival
abbrev pub submission_numbered : Stored → ℕ → Option StoredSubmission
submission_numbered s n = find (λ r. r.seq == n) s.submitted

abbrev pub arrival_numbered : Stored → ℕ → Option StoredArrival
arrival_numbered s n = find (λ r. r.seq == n) s.arrived

-- what is filed of a first arrival of this number, as an item of the history with these marks
abbrev pub item_kept : Marks → ℕ → List ℕ × Option (List ℕ) → Item
item_kept marks n kept = Came (edition_at marks n) kept.0 kept.1
