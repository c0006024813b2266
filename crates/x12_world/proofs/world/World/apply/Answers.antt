-- A network that was reached goes on to be so.
use Rattle.std.proofs.Common.{◌≤◌, subst, sym}
use Rattle.x12_world.specs.EventView.{event_view}
use Rattle.x12_world.specs.Effect.{asked_by}
use Rattle.x12_world.specs.Running.{answering, world_of, NoneWonBack}
use Rattle.x12_world.specs.Runs.{running}
use Rattle.x12_world.proofs.AnswerLemmas.{all_back, asked_of_all}
use Rattle.x12_world.proofs.RanLemmas.{reached_after}
use Rattle.x12_world.proofs.world.World.apply.Goals as goal

pub invariant_of-self : goal.invariant_of-self
invariant_of-self g c =
    let s = c.self.inside in
    let n = c.take.new in
    let was = c.self.invariant in
    let e = event_view c.args.event.now in
    let w = world_of s.hubs s.stations.items s.held.items in
    let now = running n.hubs n.stations.items n.held.items in
    let before = all_back (answering s.hubs s.stations.items) (answering n.hubs n.stations.items) (λ k. (c.take.ensures.disks k).never_won_back) in
    record {
      few = subst (λ k. k ≤ 16) (sym c.take.ensures.len) was.few;
      reached = λ answers.
          let asked = asked_of_all now answers (asked_by w.packets e) in
          reached_after c.reached.ensures.reached w now.world e c.take.result (was.reached (before answers)) (c.take.ensures.ran asked) (c.take.ensures.unchanged asked);
      listed = λ answers. c.take.ensures.listed answers (was.listed (before answers));
    }

pub returns-clause-reached : goal.returns-clause-reached
returns-clause-reached g c = λ answers.
    let s = c.self.inside in
    let n = c.take.new in
    let e = event_view c.args.event.now in
    let w = world_of s.hubs s.stations.items s.held.items in
    let now = running n.hubs n.stations.items n.held.items in
    let asked = asked_of_all now answers (asked_by w.packets e) in
    reached_after c.reached.ensures.reached w now.world e c.take.result
    (c.self.invariant.reached (all_back (answering s.hubs s.stations.items) (answering n.hubs n.stations.items) (λ k. (c.take.ensures.disks k).never_won_back) answers)) (c.take.ensures.ran asked) (c.take.ensures.unchanged asked)

pub returns-clause-never_won_back : goal.returns-clause-never_won_back
returns-clause-never_won_back g c =
    let s = c.self.inside in
    let n = c.take.new in
    let back : NoneWonBack (answering s.hubs s.stations.items) (answering n.hubs n.stations.items) = λ k. (c.take.ensures.disks k).never_won_back in
    rw (← c.self.view_is) back
