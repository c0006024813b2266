use Rattle.std.proofs.Common.{◌<◌, ◌≡◌, true, is_some, length, set, ap, subst, sym}
use Rattle.x12_world.specs.Asking.{PartyAnswers}
use Rattle.x12_world.specs.Running.{Running}
use Rattle.x12_world.specs.Runs.{running}
use Rattle.x12_world.specs.Audit.{station_named}
use Rattle.x12_world.specs.Failing.{failures_beside}
use Rattle.x12_world.proofs.world.World.fate.Goals as goal
use Rattle.x12_world.proofs.FailingLemmas.{counts_alike, counts_told, failed_behind}
use Rattle.x12_world.proofs.AskingLemmas.{by_party, has_party, station_found, none_found, stays, stays_reached, won, handed_on, handed_same}

pub invariant_of-self : goal.invariant_of-self
invariant_of-self g c =
    let ss = c.self.inside.stations in
    let there = c.in_ok-place.ensures.there in
    let within : c.in_ok-place.place < length ss.items = subst (λ rs. c.in_ok-place.place < length rs) c.deref.ensures.value there.0 in
    stays_reached c.self.inside.hubs ss.items c.self.inside.held.items c.in_ok-place.place c.index_mut.result.now c.fate.new.self
    within c.index_mut.ensures.value c.fate.ensures.never_won_back c.fate.ensures.same c.self.inside.submitted.items c.self.invariant

pub invariant_of-self-2 : goal.invariant_of-self-2
invariant_of-self-2 g c =
    let ss = c.self.inside.stations in
    let there = c.in_ok-place.ensures.there in
    let within : c.in_ok-place.place < length ss.items = subst (λ rs. c.in_ok-place.place < length rs) c.deref.ensures.value there.0 in
    stays_reached c.self.inside.hubs ss.items c.self.inside.held.items c.in_ok-place.place c.index_mut.result.now c.fate.new.self
    within c.index_mut.ensures.value c.fate.ensures.never_won_back c.fate.ensures.same c.self.inside.submitted.items c.self.invariant

pub returns-in_err-fate-clause-never_won_back : goal.returns-in_err-fate-clause-never_won_back
returns-in_err-fate-clause-never_won_back g c =
    let ss = c.self.inside.stations in
    let there = c.in_ok-place.ensures.there in
    let within : c.in_ok-place.place < length ss.items = subst (λ rs. c.in_ok-place.place < length rs) c.deref.ensures.value there.0 in
    rw (← c.self.view_is) (won c.self.inside.hubs ss.items c.self.inside.held.items c.in_ok-place.place c.index_mut.result.now c.fate.new.self
    within c.index_mut.ensures.value c.fate.ensures.never_won_back c.fate.ensures.same)

pub returns-in_err-fate-clause-same : goal.returns-in_err-fate-clause-same
returns-in_err-fate-clause-same g c answers =
    let ss = c.self.inside.stations in
    let there = c.in_ok-place.ensures.there in
    let within : c.in_ok-place.place < length ss.items = subst (λ rs. c.in_ok-place.place < length rs) c.deref.ensures.value there.0 in
    let named = has_party ss.items c.deref.result.now c.deref.ensures.value c.args.key.now.sender c.in_ok-place.place c.index_mut.result.now there.0 c.index_mut.ensures.value there.1 in
    let asked = by_party c.self.inside.hubs ss.items c.self.inside.held.items c.in_ok-place.place c.index_mut.result.now c.fate.new.self
    within c.index_mut.ensures.value c.fate.ensures.never_won_back c.fate.ensures.same c.args.key.now.sender c.self.invariant.few named
    (subst (λ (v : Running). PartyAnswers v.world c.args.key.now.sender (running c.self.inside.hubs (set ss.items c.in_ok-place.place c.fate.new.self) c.self.inside.held.items)) (sym c.self.view_is) answers) in
    rw (← c.self.view_is) (stays c.self.inside.hubs ss.items c.self.inside.held.items c.in_ok-place.place c.index_mut.result.now c.fate.new.self
    within c.index_mut.ensures.value c.fate.ensures.never_won_back c.fate.ensures.same asked)

pub returns-clause-never_won_back : goal.returns-clause-never_won_back
returns-clause-never_won_back g c =
    let ss = c.self.inside.stations in
    let there = c.in_ok-place.ensures.there in
    let within : c.in_ok-place.place < length ss.items = subst (λ rs. c.in_ok-place.place < length rs) c.deref.ensures.value there.0 in
    rw (← c.self.view_is) (won c.self.inside.hubs ss.items c.self.inside.held.items c.in_ok-place.place c.index_mut.result.now c.fate.new.self
    within c.index_mut.ensures.value c.fate.ensures.never_won_back c.fate.ensures.same)

pub returns-clause-same : goal.returns-clause-same
returns-clause-same g c answers =
    let ss = c.self.inside.stations in
    let there = c.in_ok-place.ensures.there in
    let within : c.in_ok-place.place < length ss.items = subst (λ rs. c.in_ok-place.place < length rs) c.deref.ensures.value there.0 in
    let named = has_party ss.items c.deref.result.now c.deref.ensures.value c.args.key.now.sender c.in_ok-place.place c.index_mut.result.now there.0 c.index_mut.ensures.value there.1 in
    let asked = by_party c.self.inside.hubs ss.items c.self.inside.held.items c.in_ok-place.place c.index_mut.result.now c.fate.new.self
    within c.index_mut.ensures.value c.fate.ensures.never_won_back c.fate.ensures.same c.args.key.now.sender c.self.invariant.few named
    (subst (λ (v : Running). PartyAnswers v.world c.args.key.now.sender (running c.self.inside.hubs (set ss.items c.in_ok-place.place c.fate.new.self) c.self.inside.held.items)) (sym c.self.view_is) answers) in
    rw (← c.self.view_is) (stays c.self.inside.hubs ss.items c.self.inside.held.items c.in_ok-place.place c.index_mut.result.now c.fate.new.self
    within c.index_mut.ensures.value c.fate.ensures.never_won_back c.fate.ensures.same asked)

pub returns-in_err-fate-clause-refused : goal.returns-in_err-fate-clause-refused
returns-in_err-fate-clause-refused g c =
    let ss = c.self.inside.stations in
    let there = c.in_ok-place.ensures.there in
    let within : c.in_ok-place.place < length ss.items = subst (λ rs. c.in_ok-place.place < length rs) c.deref.ensures.value there.0 in
    let at = station_found c.self.inside.hubs ss.items c.deref.result.now c.deref.ensures.value c.self.inside.held.items c.args.key.now.sender c.in_ok-place.place c.index_mut.result.now there.0 c.index_mut.ensures.value there.1 in
    let is : is_some (station_named c.args.self.now.world c.args.key.now.sender) ≡ true = rw (← c.self.view_is) (ap is_some at) in
    handed_on c.from_residual-in_err-fate.result _ _ c.from_residual-in_err-fate.ensures.1 is c.in_err-fate.ensures.fault

pub returns-clause-fate : goal.returns-clause-fate
returns-clause-fate g c answers =
    let ss = c.self.inside.stations in
    let there = c.in_ok-place.ensures.there in
    let within : c.in_ok-place.place < length ss.items = subst (λ rs. c.in_ok-place.place < length rs) c.deref.ensures.value there.0 in
    let named = has_party ss.items c.deref.result.now c.deref.ensures.value c.args.key.now.sender c.in_ok-place.place c.index_mut.result.now there.0 c.index_mut.ensures.value there.1 in
    let asked = by_party c.self.inside.hubs ss.items c.self.inside.held.items c.in_ok-place.place c.index_mut.result.now c.fate.new.self
    within c.index_mut.ensures.value c.fate.ensures.never_won_back c.fate.ensures.same c.args.key.now.sender c.self.invariant.few named
    (subst (λ (v : Running). PartyAnswers v.world c.args.key.now.sender (running c.self.inside.hubs (set ss.items c.in_ok-place.place c.fate.new.self) c.self.inside.held.items)) (sym c.self.view_is) answers) in
    let at = station_found c.self.inside.hubs ss.items c.deref.result.now c.deref.ensures.value c.self.inside.held.items c.args.key.now.sender c.in_ok-place.place c.index_mut.result.now there.0 c.index_mut.ensures.value there.1 in
    rw (← c.self.view_is) (c.index_mut.result.now.state, at, c.in_ok-fate.ensures.fate asked)

pub returns-in_err-place-clause-refused : goal.returns-in_err-place-clause-refused
returns-in_err-place-clause-refused g c =
    rw (← c.self.view_is)
    (handed_same c.from_residual.result c.in_err-place.field-0.0 _ c.from_residual.ensures.1
    (none_found c.self.inside.hubs c.self.inside.stations.items c.deref.result.now c.deref.ensures.value c.self.inside.held.items c.args.key.now.sender c.in_err-place.field-0.0 c.in_err-place.ensures.none))

pub returns-in_err-fate-clause-store : goal.returns-in_err-fate-clause-store
returns-in_err-fate-clause-store g c =
    let ss = c.self.inside.stations in
    let there = c.in_ok-place.ensures.there in
    let within : c.in_ok-place.place < length ss.items = subst (λ rs. c.in_ok-place.place < length rs) c.deref.ensures.value there.0 in
    rw (← c.self.view_is)
    (counts_told c.from_residual-in_err-fate.result c.in_err-fate.field-0.0 _ _ c.from_residual-in_err-fate.ensures.1
    (λ is. failed_behind c.self.inside.hubs ss.items c.in_ok-place.place c.index_mut.result.now c.fate.new.self within c.index_mut.ensures.value (c.in_err-fate.ensures.store.device is)))

pub returns-clause-store : goal.returns-clause-store
returns-clause-store g c =
    let ss = c.self.inside.stations in
    let there = c.in_ok-place.ensures.there in
    let within : c.in_ok-place.place < length ss.items = subst (λ rs. c.in_ok-place.place < length rs) c.deref.ensures.value there.0 in
    rw (← c.self.view_is)
    (record {
      ok = ap (failures_beside c.self.inside.hubs) (counts_alike ss.items c.in_ok-place.place c.index_mut.result.now c.fate.new.self within c.index_mut.ensures.value c.in_ok-fate.ensures.store.ok);
      refused = tt;
    })
