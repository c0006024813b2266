-- What is kept under a number is what the history has at its place.
use Rattle.std.proofs.Common.{◌∙◌}
use Rattle.x12_station.proofs.PlacedLemmas.{item_placed}
use Rattle.x12_station.proofs.StoppedLemmas.{step_only_asked, whole}
use Rattle.x12_station.proofs.station.Station.item.Goals as goal

pub returns-clause-item : goal.returns-clause-item
returns-clause-item g c = λ answers.
    let s = g.R.Records.content c.self.inside.records in
    let found = c.in_ok-find_item.ensures in
    let held = (c.self.invariant.held (found.never_won_back answers)).1 in
    rw (← c.self.view_is) (found.found answers ∙ item_placed s held.sound.numbered c.args.number)

pub returns-in_err-find_item-clause-crash : goal.returns-in_err-find_item-clause-crash
returns-in_err-find_item-clause-crash g c =
    let m = c.self.inside.memory in
    let asks = c.find_item.ensures in
    rw (← c.self.view_is) (whole g.R.Records _ m.ledger.holds m.ledger.holds m.counts m.counts (λ d answers may. g.met.R.Records.left_is_held c.find_item.new.self d asks.valid answers may) (step_only_asked g.R.Records _ asks.crash))

pub returns-clause-crash : goal.returns-clause-crash
returns-clause-crash g c =
    let m = c.self.inside.memory in
    let asks = c.find_item.ensures in
    rw (← c.self.view_is) (whole g.R.Records _ m.ledger.holds m.ledger.holds m.counts m.counts (λ d answers may. g.met.R.Records.left_is_held c.find_item.new.self d asks.valid answers may) (step_only_asked g.R.Records _ asks.crash))
