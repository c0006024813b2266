-- A new network is reached.
use Rattle.std.proofs.Common.{◌≡◌, ◌≤◌, ℕ, List, Option, length, map, option_map, sym, subst, ◌∙◌, ap, refl, IsTrue, Vec}
use Rattle.std.specs.Prelude.{All}
use Rattle.std.specs.Global.{Global}
use Rattle.x12_core.specs.declared.packet.Packet.{Packet as CodePacket}
use Rattle.x12_envelopes.specs.declared.party.Party.{Party}
use Rattle.x12_envelopes.specs.Party.{is_plain_party}
use Rattle.x12_hub.specs.Hub.{Hub}
use Rattle.x12_profile.specs.X12.{x12}
use Rattle.x12_station.specs.Seen.{StationView}
use Rattle.x12_world.specs.Asking.{states_of}
use Rattle.x12_world.specs.Founding.{home_among, network_of, MakesNetwork}
use Rattle.x12_world.specs.Network.{parties_in}
use Rattle.x12_world.specs.Reach.{IsReachable}
use Rattle.x12_world.specs.Running.{founders_answer, world_of}
use Rattle.x12_world.specs.Submission.{AreListed}
use Rattle.x12_world.proofs.FoundingLemmas.{founded, new_is}
use Rattle.x12_world.proofs.SubmissionLemmas.{new_listed}
use Rattle.x12_world.proofs.world.World.new.Goals as goal

homes_are : {R : Type 0} → (homes : List ℕ) (seen ss : List (StationView R)) (told second : Option Party) → seen ≡ ss → told ≡ second → homes ≡ map (λ (s : StationView R). home_among told s.state.hubs) seen
    → homes ≡ map (λ (s : StationView R). home_among second s.state.hubs) ss
homes_are homes seen ss told second same is e = e ∙ ap (λ q. map (λ (s : StationView _). home_among q s.state.hubs) seen) is ∙ ap (map (λ (s : StationView _). home_among second s.state.hubs)) same

pub invariant_of-result : goal.invariant_of-result
invariant_of-result g c =
    let ss = c.args.stations.items in
    let h = c.args.hub.hub in
    let second = option_map (λ k. k.hub) c.args.second in
    record {
      few = subst (λ (xs : List (StationView _)). length xs ≤ 16) c.deref.ensures.value (c.if-not-is_network.ensures.few refl);
      reached = λ answers.
          let told = c.if-not-is_network.ensures in
          let m = subst (MakesNetwork h second) c.deref.ensures.value (told.yes (subst (λ (xs : List (StationView _)). IsTrue (founders_answer c.args.hub c.args.second xs)) (sym c.deref.ensures.value) answers) refl) in
          let homes = homes_are c.in-Ok.homes.items c.deref-2.result.now ss c.party_of.result (option_map (λ (k : Hub). k.me) second) c.deref-2.ensures.value c.party_of.ensures.party c.in-Ok.ensures in
          let plain = subst (λ (xs : List (StationView _)). All (λ p. IsTrue (is_plain_party p)) (parties_in (network_of h second xs))) c.deref.ensures.value (told.plain refl) in
          subst (λ (held : List (Vec CodePacket Global)). IsReachable x12 (world_of (record { first = c.args.hub; second = c.args.second; homes = c.in-Ok.homes }) ss held)) (sym c.new.ensures.items)
          (founded h second c.in-Ok.homes.items ss m homes c.reached.ensures.reached plain);
      listed = λ answers.
          let told = c.if-not-is_network.ensures in
          let m = subst (MakesNetwork h second) c.deref.ensures.value (told.yes (subst (λ (xs : List (StationView _)). IsTrue (founders_answer c.args.hub c.args.second xs)) (sym c.deref.ensures.value) answers) refl) in
          subst (AreListed (states_of ss)) (sym c.new-2.ensures.items) (new_listed h.me (option_map (λ (k : Hub). k.me) second) ss m.members);
    }

pub returns-clause-new : goal.returns-clause-new
returns-clause-new g c = λ answers.
    let ss = c.args.stations.items in
    let h = c.args.hub.hub in
    let second = option_map (λ k. k.hub) c.args.second in
    let told = c.if-not-is_network.ensures in
    let m = subst (MakesNetwork h second) c.deref.ensures.value (told.yes (subst (λ (xs : List (StationView _)). IsTrue (founders_answer c.args.hub c.args.second xs)) (sym c.deref.ensures.value) answers) refl) in
    let homes = homes_are c.in-Ok.homes.items c.deref-2.result.now ss c.party_of.result (option_map (λ (k : Hub). k.me) second) c.deref-2.ensures.value c.party_of.ensures.party c.in-Ok.ensures in
    ap (world_of (record { first = c.args.hub; second = c.args.second; homes = c.in-Ok.homes }) ss) c.new.ensures.items ∙ new_is h second c.in-Ok.homes.items ss m homes

pub returns-clause-reached : goal.returns-clause-reached
returns-clause-reached g c = λ answers.
    let ss = c.args.stations.items in
    let h = c.args.hub.hub in
    let second = option_map (λ k. k.hub) c.args.second in
    let told = c.if-not-is_network.ensures in
    let m = subst (MakesNetwork h second) c.deref.ensures.value (told.yes (subst (λ (xs : List (StationView _)). IsTrue (founders_answer c.args.hub c.args.second xs)) (sym c.deref.ensures.value) answers) refl) in
    let homes = homes_are c.in-Ok.homes.items c.deref-2.result.now ss c.party_of.result (option_map (λ (k : Hub). k.me) second) c.deref-2.ensures.value c.party_of.ensures.party c.in-Ok.ensures in
    let plain = subst (λ (xs : List (StationView _)). All (λ p. IsTrue (is_plain_party p)) (parties_in (network_of h second xs))) c.deref.ensures.value (told.plain refl) in
    subst (λ (held : List (Vec CodePacket Global)). IsReachable x12 (world_of (record { first = c.args.hub; second = c.args.second; homes = c.in-Ok.homes }) ss held)) (sym c.new.ensures.items)
    (founded h second c.in-Ok.homes.items ss m homes c.reached.ensures.reached plain)
