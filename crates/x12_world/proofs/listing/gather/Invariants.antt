-- the sets of the stations so far
use Rattle.std.proofs.Common.{◌≡◌, IsTrue, All, length, map, take}
use Rattle.x12_world.specs.Asking.{states_of}
use Rattle.x12_world.specs.Failing.{station_failures}
use Rattle.x12_world.specs.Listing.{sets_of_stations}
use Rattle.x12_world.specs.Placing.{outgoing_view}
use Rattle.x12_world.specs.Running.{all_answer}
use Rattle.x12_world.specs.Submission.{AreListed, NumbersRise}
use Rattle.x12_world.proofs.listing.gather.Given as goal

abbrev pub invariant-loop-place : goal.invariant-loop-place
invariant-loop-place g l = record {
  never_won_back : IsTrue (all_answer l.stations.items) → IsTrue (all_answer l.initial.stations.items);
  same : IsTrue (all_answer l.stations.items) → states_of l.stations.items ≡ states_of l.initial.stations.items;
  counts : station_failures l.stations.items ≡ station_failures l.initial.stations.items;
  long : length l.stations.items ≡ length l.initial.stations.items;
  sets : IsTrue (all_answer l.stations.items) → AreListed (states_of l.initial.stations.items) l.submitted → All NumbersRise (states_of l.initial.stations.items) →
      map outgoing_view l.sets.items ≡ sets_of_stations (take l.place (states_of l.initial.stations.items));
}
