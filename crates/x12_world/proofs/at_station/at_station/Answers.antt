-- One station changes, and its place alone.
use Rattle.std.proofs.Common.{◌≡◌, ◌-◌, ◌+◌, ◌<◌, ◌≤◌, length, sym, ◌∙◌, arith}
use Rattle.x12_world.specs.Running.{HasNumbers, Hubs}
use Rattle.x12_core.specs.Sends.{sends_view}
use Rattle.x12_core.specs.View.{ref_view}
use Rattle.x12_world.proofs.DisksLemmas.{each_among}
use Rattle.x12_world.proofs.FailingLemmas.{asked_among}
use Rattle.x12_world.proofs.AnswerLemmas.{set_answers}
use Rattle.x12_world.proofs.RunningLemmas.{asked, asked_in_vain, stations_kept, if_err, on_err}
use Rattle.std.proofs.lemmas.Result.{IfOk-weaker}
use Rattle.x12_core.specs.Submission.{listed}
use Rattle.x12_world.proofs.SubmissionLemmas.{station_lists}
use Rattle.x12_world.proofs.at_station.at_station.Goals as goal

pub returns-clause-took : goal.returns-clause-took
returns-clause-took g c = λ answers.
    let ss = c.args.stations.now in
    let i = c.args.site.node - 1 in
    let old = c.index_mut-station.result.now in
    let new = c.ask_station.new.station in
    let low = c.requires.there.0 in
    let high : c.args.site.node ≤ length ss.items = let e = ss.ok.0 in let up = c.requires.there.1 in omega arith in
    IfOk-weaker c.ask_station.result _ _ (λ sends effect (h : Hubs) (numbers : HasNumbers h ss.items). asked (ref_view c.args.ask.now) h ss.items c.args.site old new (sends_view sends) numbers low high c.index_mut-station.ensures.value effect)
    (c.ask_station.ensures.took (sym (set_answers ss.items i new (omega arith)) ∙ answers))

pub returns-clause-refused : goal.returns-clause-refused
returns-clause-refused g c = λ answers.
    let ss = c.args.stations.now in
    let i = c.args.site.node - 1 in
    let old = c.index_mut-station.result.now in
    let new = c.ask_station.new.station in
    let low = c.requires.there.0 in
    let high : c.args.site.node ≤ length ss.items = let e = ss.ok.0 in let up = c.requires.there.1 in omega arith in
    if_err c.ask_station.result _ _ (λ r why (h : Hubs) (numbers : HasNumbers h ss.items). asked_in_vain (ref_view c.args.ask.now) h ss.items c.args.site.node old r numbers low high c.index_mut-station.ensures.value why)
    (c.ask_station.ensures.refused (sym (set_answers ss.items i new (omega arith)) ∙ answers))

pub returns-clause-unchanged : goal.returns-clause-unchanged
returns-clause-unchanged g c = λ answers.
    let ss = c.args.stations.now in
    let i = c.args.site.node - 1 in
    let old = c.index_mut-station.result.now in
    let new = c.ask_station.new.station in
    let within : i < length ss.items = let e = ss.ok.0 in let low = c.requires.there.0 in let high = c.requires.there.1 in omega arith in
    on_err c.ask_station.result _ _ (stations_kept ss.items i new old c.index_mut-station.ensures.value)
    (c.ask_station.ensures.unchanged (sym (set_answers ss.items i new within) ∙ answers))

pub returns-clause-submits : goal.returns-clause-submits
returns-clause-submits g c = λ answers.
    let ss = c.args.stations.now in
    let i = c.args.site.node - 1 in
    let old = c.index_mut-station.result.now in
    let new = c.ask_station.new.station in
    let within : i < length ss.items = let e = ss.ok.0 in let low = c.requires.there.0 in let high = c.requires.there.1 in omega arith in
    let node : c.args.site.node ≡ i + 1 = let low = c.requires.there.0 in omega arith in
    IfOk-weaker c.ask_station.result _ _ (λ sends did. station_lists ss.items i c.args.site.node old new (listed sends) node within c.index_mut-station.ensures.value did)
    (c.ask_station.ensures.submits (sym (set_answers ss.items i new within) ∙ answers))

pub returns-clause-store : goal.returns-clause-store
returns-clause-store g c =
    let ss = c.args.stations.now in
    let within : c.args.site.node - 1 < length ss.items = let e = ss.ok.0 in let low = c.requires.there.0 in let high = c.requires.there.1 in omega arith in
    asked_among c.ask_station.result ss.items (c.args.site.node - 1) c.index_mut-station.result.now c.ask_station.new.station within c.index_mut-station.ensures.value c.ask_station.ensures.store

pub returns-clause-disks : goal.returns-clause-disks
returns-clause-disks g c =
    let ss = c.args.stations.now in
    let within : c.args.site.node - 1 < length ss.items = let e = ss.ok.0 in let low = c.requires.there.0 in let high = c.requires.there.1 in omega arith in
    each_among c.ask_station.result ss.items (c.args.site.node - 1) c.index_mut-station.result.now c.ask_station.new.station within c.index_mut-station.ensures.value c.ask_station.ensures.disk
