-- What is posted is what the history tells.
use Rattle.std.proofs.Common.{◌∙◌, ap}
use Rattle.x12_acks.specs.Key.{key_view}
use Rattle.x12_inbound.specs.Register.{posted_in}
use Rattle.x12_station.proofs.StoppedLemmas.{step_only_asked, whole}
use Rattle.x12_station.proofs.station.Station.posted.Goals as goal

pub returns-clause-posted : goal.returns-clause-posted
returns-clause-posted g c = λ answers.
    let found = c.in_ok-find_posted.ensures in
    let held = (c.self.invariant.held (found.never_won_back answers)).1 in
    rw (← c.self.view_is) (found.found answers ∙ ap (λ ps. posted_in ps (key_view c.args.key.now)) held.posted)

pub returns-in_err-find_posted-clause-crash : goal.returns-in_err-find_posted-clause-crash
returns-in_err-find_posted-clause-crash g c =
    let m = c.self.inside.memory in
    let asks = c.find_posted.ensures in
    rw (← c.self.view_is) (whole g.R.Records _ m.ledger.holds m.ledger.holds m.counts m.counts (λ d answers may. g.met.R.Records.left_is_held c.find_posted.new.self d asks.valid answers may) (step_only_asked g.R.Records _ asks.crash))

pub returns-clause-crash : goal.returns-clause-crash
returns-clause-crash g c =
    let m = c.self.inside.memory in
    let asks = c.find_posted.ensures in
    rw (← c.self.view_is) (whole g.R.Records _ m.ledger.holds m.ledger.holds m.counts m.counts (λ d answers may. g.met.R.Records.left_is_held c.find_posted.new.self d asks.valid answers may) (step_only_asked g.R.Records _ asks.crash))
