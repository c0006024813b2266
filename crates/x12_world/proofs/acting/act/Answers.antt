-- What a hub, or a station, did is what the event makes of the network.
use Rattle.std.proofs.Common.{◌≡◌, ◌≤◌, Some, false, Result, Ok, Err, OnErr, subst, sym, ap, arith, length, ◌∙◌}
use Rattle.std.specs.Prelude.{is_some, option_map}
use Rattle.std.proofs.lemmas.List.{length-map}
use Rattle.x12_core.specs.Sends.{sends_view}
use Rattle.x12_core.specs.View.{ref_view}
use Rattle.x12_core.specs.declared.packet.Site.{Site}
use Rattle.x12_station.specs.Seen.{StationView}
use Rattle.x12_world.specs.Asks.{IsAsked, IsAskedInVain}
use Rattle.x12_world.specs.Effect.{Asked, asked_by}
use Rattle.x12_world.specs.EventView.{asked_view, event_view}
use Rattle.x12_world.specs.Nodes.{is_hub_number, site_of}
use Rattle.x12_world.specs.Refusing.{IsNetworkRefusal}
use Rattle.x12_world.specs.Running.{beside, hubs_in, nodes_of, station_answers, station_nodes, world_of}
use Rattle.x12_world.specs.Runs.{running}
use Rattle.x12_world.proofs.ActingLemmas.{fits_there, hub_so, refused, station_so, told_so, took}
use Rattle.x12_world.proofs.AnswerLemmas.{asked_of_all}
use Rattle.x12_world.specs.Disks.{disks_beside, station_disks}
use Rattle.x12_world.proofs.DisksLemmas.{both_counted, each_handed, each_stations, each_refused}
use Rattle.x12_world.proofs.FailingLemmas.{asked_beside, asked_handed}
use Rattle.x12_world.proofs.RunningLemmas.{few_numbers, second_kept, station_meant}
use Rattle.x12_world.proofs.acting.act.Goals as goal

stays : {A E : Type 0} {P : Type 0} (r : Result A E) → P → OnErr r P
stays (Ok x) p = tt
stays (Err f) p = p

pub returns-then-have-clause-took : goal.returns-then-have-clause-took
returns-then-have-clause-took g c = λ answers.
    let hubs = c.args.hubs.now in
    let ss = c.args.stations.now.items in
    let held = c.args.held.now.items in
    let e = event_view c.args.event.now in
    let w = world_of hubs ss held in
    let a : Asked = record { node = c.in-Some.node; ask = ref_view c.in-Some.ask } in
    let is : asked_by w.packets e ≡ Some a = sym c.asked.ensures ∙ ap (option_map asked_view) c.in-Some.is in
    let new = c.at_hub.new.hubs in
    let there = hub_so hubs new ss held e a is c.at_hub.ensures.second (sym c.have.ensures ∙ c.if-have.true) answers c.site-site.result.node c.site-site.ensures.node in
    let site : c.site-site.result ≡ site_of w.nodes a.node = λ j. record { node = c.site-site.ensures.node j; hub = c.site-site.ensures.hub j } in
    let sends = sends_view c.in_ok-at_hub.field-0 in
    let nodes = nodes_of (hubs_in new) ss in
    took w e a nodes sends is c.requires.admitted.1
    (subst (λ (at : Site). IsAsked a.ask at w.nodes nodes sends) site (c.in_ok-at_hub.ensures.took there (station_nodes ss)))

pub returns-clause-took : goal.returns-clause-took
returns-clause-took g c = λ answers.
    let hubs = c.args.hubs.now in
    let ss = c.args.stations.now.items in
    let held = c.args.held.now.items in
    let e = event_view c.args.event.now in
    let w = world_of hubs ss held in
    let a : Asked = record { node = c.in-Some.node; ask = ref_view c.in-Some.ask } in
    let is : asked_by w.packets e ≡ Some a = sym c.asked.ensures ∙ ap (option_map asked_view) c.in-Some.is in
    let new = c.at_station.new.stations.items in
    let numbers = few_numbers hubs ss (let n = c.args.stations.now.ok.0 in let few = c.requires.admitted.0 in omega arith) in
    let isnt : is_hub_number (is_some hubs.second) a.node ≡ false = sym c.have.ensures ∙ c.if-have.false in
    let number = station_meant (hubs_in hubs) ss a.node numbers a.ask (sym (second_kept hubs a.node) ∙ isnt) (fits_there w e a is c.requires.admitted.1) in
    let high : a.node ≤ length new = let n = number.1 in let same = c.at_station.ensures.len in omega arith in
    let there = station_so hubs ss new held e a is isnt number.0 high answers c.site-site.result.node c.site-site.ensures.node in
    let site : c.site-site.result ≡ site_of w.nodes a.node = λ j. record { node = c.site-site.ensures.node j; hub = c.site-site.ensures.hub j } in
    let sends = sends_view c.in_ok-at_station.field-0 in
    let nodes = nodes_of (hubs_in hubs) new in
    took w e a nodes sends is c.requires.admitted.1
    (subst (λ (at : Site). IsAsked a.ask at w.nodes nodes sends) site (c.in_ok-at_station.ensures.took there (hubs_in hubs) numbers))

pub returns-clause-submits : goal.returns-clause-submits
returns-clause-submits g c = λ all.
    let hubs = c.args.hubs.now in
    let ss = c.args.stations.now.items in
    let held = c.args.held.now.items in
    let e = event_view c.args.event.now in
    let w = world_of hubs ss held in
    let a : Asked = record { node = c.in-Some.node; ask = ref_view c.in-Some.ask } in
    let is : asked_by w.packets e ≡ Some a = sym c.asked.ensures ∙ ap (option_map asked_view) c.in-Some.is in
    let new = c.at_station.new.stations.items in
    let numbers = few_numbers hubs ss (let n = c.args.stations.now.ok.0 in let few = c.requires.admitted.0 in omega arith) in
    let isnt : is_hub_number (is_some hubs.second) a.node ≡ false = sym c.have.ensures ∙ c.if-have.false in
    let number = station_meant (hubs_in hubs) ss a.node numbers a.ask (sym (second_kept hubs a.node) ∙ isnt) (fits_there w e a is c.requires.admitted.1) in
    let high : a.node ≤ length new = let n = number.1 in let same = c.at_station.ensures.len in omega arith in
    let there = station_so hubs ss new held e a is isnt number.0 high (asked_of_all (running hubs new held) all (asked_by w.packets e)) c.site-site.result.node c.site-site.ensures.node in
    c.in_ok-at_station.ensures.submits there

pub returns-in_err-at_hub-clause-refused : goal.returns-in_err-at_hub-clause-refused
returns-in_err-at_hub-clause-refused g c = λ answers.
    let hubs = c.args.hubs.now in
    let ss = c.args.stations.now.items in
    let held = c.args.held.now.items in
    let e = event_view c.args.event.now in
    let w = world_of hubs ss held in
    let a : Asked = record { node = c.in-Some.node; ask = ref_view c.in-Some.ask } in
    let is : asked_by w.packets e ≡ Some a = sym c.asked.ensures ∙ ap (option_map asked_view) c.in-Some.is in
    let new = c.at_hub.new.hubs in
    let there = hub_so hubs new ss held e a is c.at_hub.ensures.second (sym c.have.ensures ∙ c.if-have.true) answers c.site-site.result.node c.site-site.ensures.node in
    let fault = c.in_err-at_hub.field-0.0 in
    told_so c.from_residual.result fault (IsNetworkRefusal w e) c.from_residual.ensures.1
    (refused w e a fault is c.requires.admitted.1
    (subst (λ k. IsAskedInVain a.ask k w.nodes fault) c.site-site.ensures.node (c.in_err-at_hub.ensures.refused there (station_nodes ss))))

pub returns-in_err-at_station-clause-refused : goal.returns-in_err-at_station-clause-refused
returns-in_err-at_station-clause-refused g c = λ answers.
    let hubs = c.args.hubs.now in
    let ss = c.args.stations.now.items in
    let held = c.args.held.now.items in
    let e = event_view c.args.event.now in
    let w = world_of hubs ss held in
    let a : Asked = record { node = c.in-Some.node; ask = ref_view c.in-Some.ask } in
    let is : asked_by w.packets e ≡ Some a = sym c.asked.ensures ∙ ap (option_map asked_view) c.in-Some.is in
    let new = c.at_station.new.stations.items in
    let numbers = few_numbers hubs ss (let n = c.args.stations.now.ok.0 in let few = c.requires.admitted.0 in omega arith) in
    let isnt : is_hub_number (is_some hubs.second) a.node ≡ false = sym c.have.ensures ∙ c.if-have.false in
    let number = station_meant (hubs_in hubs) ss a.node numbers a.ask (sym (second_kept hubs a.node) ∙ isnt) (fits_there w e a is c.requires.admitted.1) in
    let high : a.node ≤ length new = let n = number.1 in let same = c.at_station.ensures.len in omega arith in
    let there = station_so hubs ss new held e a is isnt number.0 high answers c.site-site.result.node c.site-site.ensures.node in
    let fault = c.in_err-at_station.field-0.0 in
    told_so c.from_residual-in_err-at_station.result fault (IsNetworkRefusal w e) c.from_residual-in_err-at_station.ensures.1
    (refused w e a fault is c.requires.admitted.1
    (subst (λ k. IsAskedInVain a.ask k w.nodes fault) c.site-site.ensures.node (c.in_err-at_station.ensures.refused there (hubs_in hubs) numbers)))

pub returns-in_err-at_hub-clause-unchanged : goal.returns-in_err-at_hub-clause-unchanged
returns-in_err-at_hub-clause-unchanged g c = λ answers.
    let hubs = c.args.hubs.now in
    let ss = c.args.stations.now.items in
    let held = c.args.held.now.items in
    let e = event_view c.args.event.now in
    let w = world_of hubs ss held in
    let a : Asked = record { node = c.in-Some.node; ask = ref_view c.in-Some.ask } in
    let is : asked_by w.packets e ≡ Some a = sym c.asked.ensures ∙ ap (option_map asked_view) c.in-Some.is in
    let new = c.at_hub.new.hubs in
    let there = hub_so hubs new ss held e a is c.at_hub.ensures.second (sym c.have.ensures ∙ c.if-have.true) answers c.site-site.result.node c.site-site.ensures.node in
    stays c.from_residual.result (ap (λ h. beside h (station_nodes ss)) (c.in_err-at_hub.ensures.unchanged there))

pub returns-in_err-at_station-clause-unchanged : goal.returns-in_err-at_station-clause-unchanged
returns-in_err-at_station-clause-unchanged g c = λ answers.
    let hubs = c.args.hubs.now in
    let ss = c.args.stations.now.items in
    let held = c.args.held.now.items in
    let e = event_view c.args.event.now in
    let w = world_of hubs ss held in
    let a : Asked = record { node = c.in-Some.node; ask = ref_view c.in-Some.ask } in
    let is : asked_by w.packets e ≡ Some a = sym c.asked.ensures ∙ ap (option_map asked_view) c.in-Some.is in
    let new = c.at_station.new.stations.items in
    let numbers = few_numbers hubs ss (let n = c.args.stations.now.ok.0 in let few = c.requires.admitted.0 in omega arith) in
    let isnt : is_hub_number (is_some hubs.second) a.node ≡ false = sym c.have.ensures ∙ c.if-have.false in
    let number = station_meant (hubs_in hubs) ss a.node numbers a.ask (sym (second_kept hubs a.node) ∙ isnt) (fits_there w e a is c.requires.admitted.1) in
    let high : a.node ≤ length new = let n = number.1 in let same = c.at_station.ensures.len in omega arith in
    let there = station_so hubs ss new held e a is isnt number.0 high answers c.site-site.result.node c.site-site.ensures.node in
    stays c.from_residual-in_err-at_station.result (ap (beside (hubs_in hubs)) (c.in_err-at_station.ensures.unchanged there))

pub at_station-requires : goal.at_station-requires
at_station-requires g c =
    let hubs = c.args.hubs.now in
    let ss = c.args.stations.now.items in
    let held = c.args.held.now.items in
    let e = event_view c.args.event.now in
    let w = world_of hubs ss held in
    let a : Asked = record { node = c.in-Some.node; ask = ref_view c.in-Some.ask } in
    let is : asked_by w.packets e ≡ Some a = sym c.asked.ensures ∙ ap (option_map asked_view) c.in-Some.is in
    let numbers = few_numbers hubs ss (let n = c.args.stations.now.ok.0 in let few = c.requires.admitted.0 in omega arith) in
    let isnt : is_hub_number (is_some (hubs_in hubs).second) a.node ≡ false = sym (second_kept hubs a.node) ∙ sym c.have.ensures ∙ c.if-have.false in
    let number = station_meant (hubs_in hubs) ss a.node numbers a.ask isnt (fits_there w e a is c.requires.admitted.1) in
    let same = c.site-site.ensures.node in
    record { there = (let low = number.0 in omega arith, let n = c.args.stations.now.ok.0 in let high = number.1 in omega arith) }

pub returns-in_err-at_station-clause-store : goal.returns-in_err-at_station-clause-store
returns-in_err-at_station-clause-store g c =
    asked_handed c.from_residual-in_err-at_station.result c.in_err-at_station.field-0.0 _ _ c.from_residual-in_err-at_station.ensures.1
    (asked_beside _ c.args.hubs.now c.args.stations.now.items c.at_station.new.stations.items c.in_err-at_station.ensures.store)

pub returns-then-have-clause-disks : goal.returns-then-have-clause-disks
returns-then-have-clause-disks g c =
    let ss = c.args.stations.now.items in
    each_handed _ _ (disks_beside c.args.hubs.now (station_disks ss)) (disks_beside c.at_hub.new.hubs (station_disks ss)) (λ P p. p) (c.in_ok-at_hub.ensures.disks (station_disks ss) (both_counted ss))

pub returns-in_err-at_hub-clause-disks : goal.returns-in_err-at_hub-clause-disks
returns-in_err-at_hub-clause-disks g c =
    let ss = c.args.stations.now.items in
    each_refused c.from_residual.result _ (disks_beside c.args.hubs.now (station_disks ss)) (disks_beside c.at_hub.new.hubs (station_disks ss)) _ c.from_residual.ensures.1 (c.in_err-at_hub.ensures.disks (station_disks ss) (both_counted ss))

pub returns-clause-disks : goal.returns-clause-disks
returns-clause-disks g c =
    each_handed _ _ (disks_beside c.args.hubs.now (station_disks c.args.stations.now.items)) (disks_beside c.args.hubs.now (station_disks c.at_station.new.stations.items)) (λ P p. p) (each_stations _ c.args.hubs.now c.args.stations.now.items c.at_station.new.stations.items c.at_station.ensures.len c.in_ok-at_station.ensures.disks)

pub returns-in_err-at_station-clause-disks : goal.returns-in_err-at_station-clause-disks
returns-in_err-at_station-clause-disks g c =
    each_refused c.from_residual-in_err-at_station.result _ (disks_beside c.args.hubs.now (station_disks c.args.stations.now.items)) (disks_beside c.args.hubs.now (station_disks c.at_station.new.stations.items)) _ c.from_residual-in_err-at_station.ensures.1
    (each_stations _ c.args.hubs.now c.args.stations.now.items c.at_station.new.stations.items c.at_station.ensures.len c.in_err-at_station.ensures.disks)
