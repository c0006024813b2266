-- What a stop leaves of a station, in a call or after it: what it might have left before, or the station
-- after the call's one step, whole.
use Rattle.std.specs.Prelude.{◌≡◌, ◌⊎◌, IsTrue, Option, None, Some}
use Rattle.x12_station.specs.declared.records.Records.{Ghosts}
use Rattle.x12_station.specs.Opened.{HoldsState}
use Rattle.x12_station.specs.Seen.{StationView}
use Rattle.x12_station.specs.StationStep.{StationStep}
use Rattle.x12_station.specs.Stored.{Stored}

-- records of a station that took this step; where it takes none, there are none
abbrev pub HoldsStep : Option StationStep → Stored → Type 0
HoldsStep None d = ⊥
HoldsStep (Some step) d = HoldsState step.station d

-- a stop leaves of records what it might have left before, or the station after this step
pub record LeavesStep {R : Type 0} (g : Ghosts R) (step : Option StationStep) (old new : R)
    : Type 0 where
  pub left : IsTrue (g.clean new) → (d : Stored) → g.may_leave new d →
      g.may_leave old d ⊎ (IsTrue (g.answers old) × HoldsStep step d)

-- A stop leaves what it might have left before the call, or the station after this step, whole; and
-- while the records answer, the station as it is.
pub record LeavesWhole {R : Type 0} (g : Ghosts R) (step : Option StationStep)
    (old new : StationView R) : Type 0 where
  pub left : IsTrue new.clean → (d : Stored) → g.may_leave new.records d →
      g.may_leave old.records d ⊎ (IsTrue old.answers × HoldsStep step d)
  pub kept : IsTrue new.answers → (d : Stored) → g.may_leave new.records d → HoldsState new.state d

-- the same of a call that writes nothing: a stop leaves no more than before
abbrev pub LeavesAsBefore : {R : Type 0} → Ghosts R → StationView R → StationView R → Type 0
LeavesAsBefore g old new = LeavesWhole g None old new

-- a call that asks the records nothing: whether they answer, are clean, and how often they failed is as
-- it was
pub record AsksNoRecords {R : Type 0} (g : Ghosts R) (old new : StationView R) : Type 0 where
  pub answers : new.answers ≡ old.answers
  pub clean : new.clean ≡ old.clean
  pub failures : new.failures ≡ old.failures
  pub left : LeavesAsBefore g old new
