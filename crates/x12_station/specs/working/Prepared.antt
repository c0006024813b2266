-- Prepared bytes that a station reads before it enters them.
use Rattle.std.specs.Prelude.{◌≡◌, ◌≢◌, ◌-◌, ◌^◌, ◌<◌, [], ◌∷◌, length, map, Option}
use Rattle.x12_numbers.specs.Book.{Numbers, Uses}
use Rattle.x12_outbound.specs.Entry.{InterchangeRow, IsSendable, pending_entry, submission_of_entry}
use Rattle.x12_profile.specs.X12.{x12, submission_in_bytes}
use Rattle.x12_station.specs.declared.fault.StationFault.{StationFault}
use Rattle.x12_station.specs.declared.fault.StationFault.TheVariants.{Store}
use Rattle.x12_station.specs.declared.cached.Cached.{Cached}
use Rattle.x12_station.specs.Durable.{IsOwnSubmission}
use Rattle.x12_station.specs.Fault.{IsRowOrWant}
use Rattle.x12_station.specs.Station.{Station}

-- refused before the records are asked: by the table's row, or for want of memory
abbrev pub IsRowOrMemory : Option StationFault → StationFault → Type 0
IsRowOrMemory row fault = IsRowOrWant row fault × (fault ≢ Store)

-- memory tells of this station: its party, its numbers, and how many items its history has
pub record Knows (m : Cached) (s : Station) : Type 0 where
  pub me : s.me ≡ m.me
  pub book : s.book ≡ m.book
  pub last : length s.items ≡ m.seq

-- an interchange that may be entered, and the numbers after it: the station may submit it, its entry
-- is as it was read, its numbers are new, and a number of a submission is left
pub record MayEnter (m : Cached) (book : Numbers) (e : InterchangeRow) : Type 0 where
  pub own : IsOwnSubmission m.me e.bytes
  pub entry : map pending_entry (submission_in_bytes e.bytes) ≡ e ∷ []
  pub uses : Uses m.book book (x12.number e.bytes ∷ []) (x12.groups e.bytes)
  pub sendable : IsSendable (submission_of_entry m.me e)
  pub room : m.seq < 2 ^ 63 - 1
