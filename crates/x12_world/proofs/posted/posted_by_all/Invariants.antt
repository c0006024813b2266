-- the postings of the stations so far
use Rattle.std.proofs.Common.{◌≡◌, IsTrue, length}
use Rattle.x12_world.specs.Asking.{states_of}
use Rattle.x12_world.specs.Posted.{ArePosted}
use Rattle.x12_world.specs.Failing.{station_failures}
use Rattle.x12_world.specs.Running.{all_answer}
use Rattle.x12_world.proofs.posted.posted_by_all.Given as goal

abbrev pub invariant-loop-place : goal.invariant-loop-place
invariant-loop-place g l = record {
  never_won_back : IsTrue (all_answer l.stations.items) → IsTrue (all_answer l.initial.stations.items);
  same : IsTrue (all_answer l.stations.items) → states_of l.stations.items ≡ states_of l.initial.stations.items;
  counts : station_failures l.stations.items ≡ station_failures l.initial.stations.items;
  long : length l.stations.items ≡ length l.initial.stations.items;
  count : length l.all.items ≡ l.place;
  posted : IsTrue (all_answer l.stations.items) → ArePosted (states_of l.initial.stations.items) l.all.items;
}
