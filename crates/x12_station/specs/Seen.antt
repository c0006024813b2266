-- What a station is to whoever calls it: its records, its state, how often they failed, whether they have
-- answered so far, whether their disk has returned what was written, and what is in memory.
use Rattle.std.specs.Prelude.{◌≡◌, ℕ, Bool, List, map, IsTrue, Result, OnErr, OnOk}
use Rattle.x12_judge.specs.Agreement.{TradingAgreement}
use Rattle.x12_numbers.specs.Book.{Numbers}
use Rattle.x12_outbound.specs.declared.evidence.Counts.{Counts}
use Rattle.x12_outbound.specs.Ledger.{OutboundLedger, LedgerRow}
use Rattle.x12_profile.specs.Edition.{Marks}
use Rattle.x12_station.specs.Schedule.{Sending}
use Rattle.x12_station.specs.Station.{Station}
use Rattle.x12_station.specs.Stored.{Stored, marks_of}
use Rattle.x12_station.specs.Durable.{items_of}

-- what a station has in memory: the marks, the last numbers, the agreements, what is open with its
-- schedules (and the station's party, its hubs and the greatest tick seen), and what was counted
pub record StationMemory : Type 0 where
  pub marks : Marks
  pub book : Numbers
  pub seq : ℕ
  pub agreements : List TradingAgreement
  pub ledger : OutboundLedger
  pub counts : Counts

-- what is said of the state holds while the records answer; of memory, always
pub record StationView (R : Type 0) : Type 0 where
  pub records : R
  pub state : Station
  pub failures : ℕ
  pub answers : Bool
  pub clean : Bool
  pub memory : StationMemory

-- What each call that asks the records tells of their disk: one that returned something else is never
-- clean again, and over a clean one an Ok comes of records that answer. And where it refuses, for
-- whatever reason, it leaves memory as it was.
pub record KeepsDisk {R A E : Type 0} (r : Result A E) (old new : StationView R) : Type 0 where
  pub was_clean : IsTrue new.clean → IsTrue old.clean
  pub answered : IsTrue new.clean → OnOk r (IsTrue new.answers)
  pub remembers : OnErr r (new.memory ≡ old.memory)

-- the schedule of an open submission
abbrev pub sending_of : LedgerRow → Sending
sending_of r = record { number = r.interchange.icn; schedule = r.schedule }

-- the station whose records hold this, with what a restart forgets in its ledger and its counts
abbrev pub station_of : OutboundLedger → Counts → Stored → Station
station_of ledger counts s = record {
  me = ledger.me;
  hubs = ledger.hubs;
  marks = marks_of s.origin;
  items = items_of s;
  agreements = s.agreements;
  book = s.book;
  tick = ledger.tick;
  sendings = map sending_of ledger.rows;
  counts = counts;
}
