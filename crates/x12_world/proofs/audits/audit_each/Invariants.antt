-- what is found so far, and those of the sets that are left
use Rattle.std.proofs.Common.{◌≡◌, ◌++◌, IsTrue, All, drop, length, map}
use Rattle.x12_world.specs.Asking.{states_of}
use Rattle.x12_world.specs.Audit.{stations_of}
use Rattle.x12_world.specs.Auditing.{audit_view}
use Rattle.x12_world.specs.Audits.{audits_under}
use Rattle.x12_world.specs.Listing.{keys_of_sets, IsSubmittedBy}
use Rattle.x12_world.specs.Placing.{outgoing_view}
use Rattle.x12_world.specs.Posted.{ArePosted}
use Rattle.x12_world.specs.Failing.{station_failures}
use Rattle.x12_world.specs.Running.{all_answer}
use Rattle.x12_world.specs.World.{World}
use Rattle.x12_world.proofs.audits.audit_each.Given as goal

abbrev pub invariant-loop-sent : goal.invariant-loop-sent
invariant-loop-sent g l = record {
  never_won_back : IsTrue (all_answer l.stations.items) → IsTrue (all_answer l.initial.stations.items);
  same : IsTrue (all_answer l.stations.items) → states_of l.stations.items ≡ states_of l.initial.stations.items;
  counts : station_failures l.stations.items ≡ station_failures l.initial.stations.items;
  long : length l.stations.items ≡ length l.initial.stations.items;
  found : (w : World) → stations_of w ≡ states_of l.initial.stations.items → IsTrue (all_answer l.stations.items) → All (λ s. IsSubmittedBy (states_of l.initial.stations.items) (outgoing_view s)) l.sets → ArePosted (states_of l.initial.stations.items) l.posted →
      map audit_view l.found.items ++ audits_under w (keys_of_sets (map outgoing_view (drop l.sent-index l.sets))) ≡ audits_under w (keys_of_sets (map outgoing_view l.sets));
}
