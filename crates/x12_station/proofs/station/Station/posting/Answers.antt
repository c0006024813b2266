-- What is posted is what the history tells.
use Rattle.std.proofs.Common.{◌∙◌, ap}
use Rattle.x12_outbound.specs.Entry.{at_place}
use Rattle.x12_station.proofs.StoppedLemmas.{step_only_asked, whole}
use Rattle.x12_station.proofs.station.Station.posting.Goals as goal

pub returns-clause-posting : goal.returns-clause-posting
returns-clause-posting g c = λ answers.
    let found = c.in_ok-find_posting.ensures in
    let held = (c.self.invariant.held (found.never_won_back answers)).1 in
    rw (← c.self.view_is) (found.found answers ∙ ap (at_place c.args.at) held.posted)

pub returns-in_err-find_posting-clause-crash : goal.returns-in_err-find_posting-clause-crash
returns-in_err-find_posting-clause-crash g c =
    let m = c.self.inside.memory in
    let asks = c.find_posting.ensures in
    rw (← c.self.view_is) (whole g.R.Records _ m.ledger.holds m.ledger.holds m.counts m.counts (λ d answers may. g.met.R.Records.left_is_held c.find_posting.new.self d asks.valid answers may) (step_only_asked g.R.Records _ asks.crash))

pub returns-clause-crash : goal.returns-clause-crash
returns-clause-crash g c =
    let m = c.self.inside.memory in
    let asks = c.find_posting.ensures in
    rw (← c.self.view_is) (whole g.R.Records _ m.ledger.holds m.ledger.holds m.counts m.counts (λ d answers may. g.met.R.Records.left_is_held c.find_posting.new.self d asks.valid answers may) (step_only_asked g.R.Records _ asks.crash))
