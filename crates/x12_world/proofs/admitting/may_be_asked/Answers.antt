-- A hub by its number, and else a station.
use Rattle.std.proofs.Common.{◌≡◌, true, false, sym, ◌∙◌}
use Rattle.std.specs.Prelude.{is_some}
use Rattle.x12_core.specs.View.{ref_view}
use Rattle.x12_world.specs.Nodes.{is_hub_number}
use Rattle.x12_world.specs.Running.{hubs_in}
use Rattle.x12_world.proofs.RunningLemmas.{hub_asked, none_asked, second_kept, station_asked}
use Rattle.x12_world.proofs.admitting.may_be_asked.Goals as goal

pub returns-then-have : goal.returns-then-have
returns-then-have g c = λ numbers.
    let tells : is_hub_number (is_some (hubs_in c.args.hubs.now).second) c.args.node ≡ true = sym (second_kept c.args.hubs.now c.args.node) ∙ sym c.have.ensures ∙ c.if-have.true in
    hub_asked (hubs_in c.args.hubs.now) c.args.stations.now c.args.node numbers (ref_view c.args.ask.now) c.suits_hub.result tells c.suits_hub.ensures

pub returns-then-is_station : goal.returns-then-is_station
returns-then-is_station g c = λ numbers.
    let h = hubs_in c.args.hubs.now in
    let isnt : is_hub_number (is_some h.second) c.args.node ≡ false = sym (second_kept c.args.hubs.now c.args.node) ∙ sym c.have.ensures ∙ c.if-have.false in
    station_asked h c.args.stations.now c.args.node numbers (ref_view c.args.ask.now) c.suits_station.result isnt (sym (c.is_station.ensures.station h numbers) ∙ c.if-is_station.true) (c.suits_station.ensures c.args.node)

pub returns-else-is_station : goal.returns-else-is_station
returns-else-is_station g c = λ numbers.
    let h = hubs_in c.args.hubs.now in
    let isnt : is_hub_number (is_some h.second) c.args.node ≡ false = sym (second_kept c.args.hubs.now c.args.node) ∙ sym c.have.ensures ∙ c.if-have.false in
    c.if-is_station.false ∙ none_asked h c.args.stations.now c.args.node numbers (ref_view c.args.ask.now) isnt (sym (c.is_station.ensures.station h numbers) ∙ c.if-is_station.false)
