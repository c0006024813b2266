-- What a call of a network tells of the records of each node, and of their disks.
use Rattle.std.specs.Prelude.{ℕ, List, Bool, true, Result, IsTrue, get_or}
use Rattle.x12_core.specs.Disk.{DiskState, KeepsAnswers}
use Rattle.x12_station.specs.Seen.{StationView}
use Rattle.x12_world.specs.declared.hubs.Hubs.{Hubs as CodeHubs}
use Rattle.x12_world.specs.Running.{Running, all_true, answers_beside, clean_beside, station_answers, station_clean}

-- whether the records of nodes answer, and whether their disks have returned what was written
pub record Disks : Type 0 where
  pub answers : List Bool
  pub clean : List Bool

-- those of one node, by its place
abbrev pub disk_at : Disks → ℕ → DiskState
disk_at d k = record { answers = get_or d.answers k true; clean = get_or d.clean k true }

-- of each node the call keeps what it keeps of one
abbrev pub KeepsEach : {A E : Type 0} → Result A E → (old new : Disks) → Type 0
KeepsEach r old new = (k : ℕ) → KeepsAnswers r (disk_at old k) (disk_at new k)

-- the disks of a network, of stations, and of what stands beside the hubs
abbrev pub disks_of : Running → Disks
disks_of r = record { answers = r.answers; clean = r.clean }

abbrev pub station_disks : {R : Type 0} → List (StationView R) → Disks
station_disks ss = record { answers = station_answers ss; clean = station_clean ss }

abbrev pub disks_beside : {H : Type 0} → CodeHubs H → Disks → Disks
disks_beside h d = record {
  answers = answers_beside h d.answers;
  clean = clean_beside h d.clean;
}

-- the disks of all nodes have returned what was written
abbrev pub AllClean : Running → Type 0
AllClean r = IsTrue (all_true r.clean)
