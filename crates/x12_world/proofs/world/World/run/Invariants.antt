-- the events so far were taken
use Rattle.std.proofs.Common.{◌≡◌, ◌≤◌, Ok, length, map, take}
use Rattle.std.specs.Prelude.{vec_len, vec_capacity}
use Rattle.x12_world.specs.EventView.{event_view}
use Rattle.x12_world.specs.Ran.{EachRan, outcome_view}
use Rattle.x12_world.specs.Disks.{KeepsEach, disks_of}
use Rattle.x12_world.specs.Running.{AllAnswer}
use Rattle.x12_world.proofs.world.World.run.Given as goal

abbrev pub invariant-loop-event : goal.invariant-loop-event
invariant-loop-event g l = record {
  disks : KeepsEach {A = Unit {0}} {E = Unit {0}} (Ok tt) (disks_of l.fn.self) (disks_of l.self);
  each : AllAnswer l.self → EachRan l.fn.self.world (take l.place (map event_view l.events)) (map outcome_view l.outcomes.items) l.self.world;
  counts : l.self.failures ≡ l.fn.self.failures;
  place : l.place ≡ l.event-index;
  count : vec_len l.outcomes ≡ l.place;
  room : length l.events ≤ vec_capacity l.outcomes;
}
