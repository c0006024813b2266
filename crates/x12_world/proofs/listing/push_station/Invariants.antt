-- the sets so far, and those of the numbers that are left
use Rattle.std.proofs.Common.{◌≡◌, ◌++◌, IsTrue, drop, flat_map, map}
use Rattle.x12_world.specs.Listing.{outgoing_under}
use Rattle.x12_world.specs.Placing.{outgoing_view}
use Rattle.x12_world.specs.Submission.{numbers_at}
use Rattle.x12_world.proofs.listing.push_station.Given as goal

abbrev pub invariant-loop-submission : goal.invariant-loop-submission
invariant-loop-submission g l = record {
  never_won_back : IsTrue l.station.answers → IsTrue l.initial.station.answers;
  same : IsTrue l.station.answers → l.station.state ≡ l.initial.station.state;
  counts : l.station.failures ≡ l.initial.station.failures;
  sets : IsTrue l.station.answers →
      map outgoing_view l.sets.items ++ flat_map (outgoing_under l.initial.station.state.items) (numbers_at l.node (drop l.submission-index l.submitted))
      ≡ map outgoing_view l.initial.sets.items ++ flat_map (outgoing_under l.initial.station.state.items) (numbers_at l.node l.submitted);
}
