-- What a station says is said at its node.
use Rattle.std.proofs.Common.{◌≡◌, ◌≤◌, List, length, subst, sym}
use Rattle.x12_station.specs.Seen.{StationView}
use Rattle.x12_world.specs.Asking.{IsAskRefused, IsSaidAt}
use Rattle.x12_world.specs.Running.{hubs_in, nodes_of}
use Rattle.x12_world.proofs.RunningLemmas.{few_numbers, if_err}
use Rattle.std.proofs.lemmas.Result.{IfOk-weaker}
use Rattle.x12_world.proofs.world.World.counts.Goals as goal

pub returns-clause-counts : goal.returns-clause-counts
returns-clause-counts g c =
    let h = hubs_in c.self.inside.hubs in
    let ss = c.deref.result.now in
    let numbers = few_numbers c.self.inside.hubs ss (subst (λ (xs : List (StationView _)). length xs ≤ 16) (sym c.deref.ensures.value) c.self.invariant.few) in
    rw (← c.self.view_is)
    (IfOk-weaker c.counts_at.result _ _ (λ o said. subst (λ (xs : List (StationView _)). IsSaidAt (nodes_of h xs) c.args.node (λ s. o ≡ s.counts)) c.deref.ensures.value (said h numbers)) c.counts_at.ensures.counts)

pub returns-clause-refused : goal.returns-clause-refused
returns-clause-refused g c =
    let h = hubs_in c.self.inside.hubs in
    let ss = c.deref.result.now in
    let numbers = few_numbers c.self.inside.hubs ss (subst (λ (xs : List (StationView _)). length xs ≤ 16) (sym c.deref.ensures.value) c.self.invariant.few) in
    rw (← c.self.view_is)
    (if_err c.counts_at.result _ _ (λ r said. subst (λ (xs : List (StationView _)). IsAskRefused (nodes_of h xs) c.args.node r) c.deref.ensures.value (said h numbers)) c.counts_at.ensures.refused)
