-- What is listed are the keys of the network, and each stands once.
use Rattle.std.proofs.Common.{◌≢◌, AllPairs, map, sym, ap, subst}
use Rattle.std.specs.List.Sorted.{IsPermutation}
use Rattle.std.proofs.lemmas.Result.{IfOk-weaker}
use Rattle.x12_acks.specs.Key.{key_view}
use Rattle.x12_profile.specs.X12.{x12}
use Rattle.x12_world.specs.Asking.{states_of}
use Rattle.x12_world.specs.Audit.{keys_of}
use Rattle.x12_world.specs.Listing.{keys_of_stations, AreKeysOf, KeysRise}
use Rattle.x12_world.specs.Running.{world_of}
use Rattle.x12_world.specs.Submission.{AreListed}
use Rattle.x12_world.proofs.FailingLemmas.{counts_beside}
use Rattle.x12_world.proofs.ActingLemmas.{stations_answer}
use Rattle.x12_world.proofs.AskingLemmas.{stations_are}
use Rattle.x12_world.proofs.WorldAskedLemmas.{is_same, kept_so, rise_so, was_so}
use Rattle.x12_world.proofs.world.World.keys.Goals as goal

pub invariant_of-self : goal.invariant_of-self
invariant_of-self g c =
    let s = c.self.inside in
    kept_so s.hubs s.stations.items c.keys_among.new.stations.items s.held.items s.submitted.items c.self.invariant c.keys_among.ensures.never_won_back c.keys_among.ensures.same c.keys_among.ensures.len

pub returns-clause-never_won_back : goal.returns-clause-never_won_back
returns-clause-never_won_back g c = λ answers.
    let s = c.self.inside in
    rw (← c.self.view_is) (was_so s.hubs s.stations.items c.keys_among.new.stations.items s.held.items s.submitted.items c.self.invariant c.keys_among.ensures.never_won_back c.keys_among.ensures.same c.keys_among.ensures.len answers)

pub returns-clause-same : goal.returns-clause-same
returns-clause-same g c = λ answers.
    let s = c.self.inside in
    rw (← c.self.view_is) (is_same s.hubs s.stations.items c.keys_among.new.stations.items s.held.items s.submitted.items c.self.invariant c.keys_among.ensures.never_won_back c.keys_among.ensures.same c.keys_among.ensures.len answers)

pub returns-clause-all : goal.returns-clause-all
returns-clause-all g c = λ answers.
    let s = c.self.inside in
    let ss = s.stations.items in
    let w = world_of s.hubs ss s.held.items in
    let was = was_so s.hubs ss c.keys_among.new.stations.items s.held.items s.submitted.items c.self.invariant c.keys_among.ensures.never_won_back c.keys_among.ensures.same c.keys_among.ensures.len answers in
    let listed = subst (AreListed (states_of ss)) (sym c.deref.ensures.value) (c.self.invariant.listed was) in
    let rise = rise_so s.hubs ss c.keys_among.new.stations.items s.held.items s.submitted.items c.self.invariant c.keys_among.ensures.never_won_back c.keys_among.ensures.same c.keys_among.ensures.len c.reached.ensures.reached answers in
    rw (← c.self.view_is)
    (IfOk-weaker c.keys_among.result (λ v. AreKeysOf (states_of ss) (map key_view v.items)) (λ v. IsPermutation (keys_of x12 w) (map key_view v.items))
    (λ v are. subst (λ ks. IsPermutation ks (map key_view v.items)) (ap keys_of_stations (sym (stations_are ss))) are.all)
    (c.keys_among.ensures.keys (stations_answer s.hubs c.keys_among.new.stations.items answers) listed rise))

pub returns-clause-rise : goal.returns-clause-rise
returns-clause-rise g c = λ answers.
    let s = c.self.inside in
    let ss = s.stations.items in
    let w = world_of s.hubs ss s.held.items in
    let was = was_so s.hubs ss c.keys_among.new.stations.items s.held.items s.submitted.items c.self.invariant c.keys_among.ensures.never_won_back c.keys_among.ensures.same c.keys_among.ensures.len answers in
    let listed = subst (AreListed (states_of ss)) (sym c.deref.ensures.value) (c.self.invariant.listed was) in
    let rise = rise_so s.hubs ss c.keys_among.new.stations.items s.held.items s.submitted.items c.self.invariant c.keys_among.ensures.never_won_back c.keys_among.ensures.same c.keys_among.ensures.len c.reached.ensures.reached answers in
    let once = subst (AllPairs (λ j k. j ≢ k)) (ap keys_of_stations (stations_are ss)) (c.reached.ensures.reached.facts w (c.self.invariant.reached was)).keys.once in
    IfOk-weaker c.keys_among.result (λ v. AreKeysOf (states_of ss) (map key_view v.items)) (λ v. KeysRise (map key_view v.items)) (λ v are. are.rise once)
    (c.keys_among.ensures.keys (stations_answer s.hubs c.keys_among.new.stations.items answers) listed rise)

pub returns-clause-store : goal.returns-clause-store
returns-clause-store g c =
    let s = c.self.inside in
    rw (← c.self.view_is) (counts_beside c.keys_among.result s.hubs s.stations.items c.keys_among.new.stations.items c.keys_among.ensures.store)
