-- What a call finds of a station's records and memory, and what it leaves of them, whatever it does.
use Rattle.std.specs.Prelude.{◌≡◌, ◌≤◌, ◌⊎◌, IsTrue, List, Result, OnErr, OnOk}
use Rattle.x12_envelopes.specs.declared.party.Party.{Party}
use Rattle.x12_outbound.specs.Hubs.{hubs_of}
use Rattle.x12_station.specs.Durable.{IsHistoryOf}
use Rattle.x12_station.specs.declared.cached.Cached.{Cached}
use Rattle.x12_station.specs.declared.records.Records.{Ghosts}
use Rattle.x12_station.specs.Entering.{IsHeld}
use Rattle.x12_station.specs.Keeps.{IsReady, memory_of}
use Rattle.x12_station.specs.Plan.{Commit, stored_after}
use Rattle.x12_station.specs.Stored.{Stored, IsSound}

-- whatever a stop leaves of these records, a station of this party and these hubs wrote it
abbrev pub LeavesHistory : {R : Type 0} → Ghosts R → Party → List Party → R → Type 0
LeavesHistory g me hubs records =
    IsTrue (g.clean records) → (d : Stored) → g.may_leave records d → IsHistoryOf me hubs d

-- a stop leaves what it might have left before
pub record LeavesNoMore {R : Type 0} (g : Ghosts R) (old new : R) : Type 0 where
  pub was_clean : IsTrue (g.clean new) → IsTrue (g.clean old)
  pub left : IsTrue (g.clean new) → (d : Stored) → g.may_leave new d → g.may_leave old d

-- a stop leaves what it might have left before, or that with this commit made; and over a clean disk
-- an Ok comes of records that answer
pub record MayLeave {R A E : Type 0} (g : Ghosts R) (plan : Commit) (r : Result A E)
    (old new : R) : Type 0 where
  pub was_clean : IsTrue (g.clean new) → IsTrue (g.clean old)
  pub answered : IsTrue (g.clean new) → OnOk r (IsTrue (g.answers new))
  pub left : IsTrue (g.clean new) → (d : Stored) → g.may_leave new d →
      g.may_leave old d ⊎ (IsTrue (g.answers old) × (d ≡ stored_after plan (g.content old)))

-- a station between calls: its records are valid, its memory can go on and is what
-- records that answer hold, and whatever a stop leaves the station wrote
pub record Stands {R : Type 0} (g : Ghosts R) (records : R) (memory : Cached) : Type 0 where
  pub valid : g.valid records
  pub ready : IsReady memory
  pub held : IsTrue (g.answers records) → IsHeld memory (g.content records)
  pub left : LeavesHistory g memory.me (hubs_of memory.hubs) records

-- It stands again. Its records answered if they do, and were clean if they are; over a clean disk an
-- Ok leaves records that answer, if they did. An Err leaves memory as it was.
pub record StandsAgain {R A E : Type 0} (g : Ghosts R) (r : Result A E) (old new : R)
    (memory_old memory : Cached) : Type 0 where
  pub valid : g.valid new
  pub ready : IsReady memory
  pub held : IsTrue (g.answers new) → IsHeld memory (g.content new)
  pub left : LeavesHistory g memory.me (hubs_of memory.hubs) new
  pub never_won_back : IsTrue (g.answers new) → IsTrue (g.answers old)
  pub was_clean : IsTrue (g.clean new) → IsTrue (g.clean old)
  pub answered : IsTrue (g.clean new) → OnOk r (IsTrue (g.answers old) → IsTrue (g.answers new))
  pub remembers : OnErr r (memory_of memory ≡ memory_of memory_old)

-- records that were asked: they hold what they held, and answered if they do; and a stop leaves no
-- more than before
pub record WereAsked {R : Type 0} (g : Ghosts R) (old new : R) : Type 0 where
  pub valid : g.valid new
  pub counted : g.failed old ≤ g.failed new
  pub never_won_back : IsTrue (g.answers new) → IsTrue (g.answers old)
  pub same : IsTrue (g.answers new) → g.content new ≡ g.content old
  pub leaves : LeavesNoMore g old new

-- records to which a plan may be written: they are valid, and sound once it is committed
pub record MayTake {R : Type 0} (g : Ghosts R) (records : R) (plan : Commit) : Type 0 where
  pub valid : g.valid records
  pub fits : IsTrue (g.answers records) → IsSound (stored_after plan (g.content records))

-- records to which something was written, or should have been: they answered if they do
pub record WereUsed {R : Type 0} (g : Ghosts R) (old new : R) : Type 0 where
  pub valid : g.valid new
  pub never_won_back : IsTrue (g.answers new) → IsTrue (g.answers old)

-- nothing was done: memory is as it was, and so is what records that answer hold
pub record AreAsBefore {R : Type 0} (g : Ghosts R) (old new : R)
    (memory_old memory_new : Cached) : Type 0 where
  pub memory : memory_new ≡ memory_old
  pub same : IsTrue (g.answers new) → g.content new ≡ g.content old
