use Rattle.std.proofs.Common.{◌∙◌}
use Rattle.x12_station.proofs.SubmittedLemmas.{submitted_is}
use Rattle.x12_station.proofs.StoppedLemmas.{step_only_asked, whole}
use Rattle.x12_station.proofs.station.Station.submission.Goals as goal

pub returns-clause-submission : goal.returns-clause-submission
returns-clause-submission g c = λ answers.
    let m = c.self.inside.memory in
    let s = g.R.Records.content c.self.inside.records in
    let was = c.self.invariant in
    let found = c.in_ok-find_outbound.ensures in
    rw (← c.self.view_is) (found.found answers ∙ submitted_is m.ledger.holds.me m.ledger.holds.hubs s (was.held (found.never_won_back answers)).1 c.args.icn)

pub returns-in_err-find_outbound-clause-crash : goal.returns-in_err-find_outbound-clause-crash
returns-in_err-find_outbound-clause-crash g c =
    let m = c.self.inside.memory in
    let asks = c.find_outbound.ensures in
    rw (← c.self.view_is) (whole g.R.Records _ m.ledger.holds m.ledger.holds m.counts m.counts (λ d answers may. g.met.R.Records.left_is_held c.find_outbound.new.self d asks.valid answers may) (step_only_asked g.R.Records _ asks.crash))

pub returns-clause-crash : goal.returns-clause-crash
returns-clause-crash g c =
    let m = c.self.inside.memory in
    let asks = c.find_outbound.ensures in
    rw (← c.self.view_is) (whole g.R.Records _ m.ledger.holds m.ledger.holds m.counts m.counts (λ d answers may. g.met.R.Records.left_is_held c.find_outbound.new.self d asks.valid answers may) (step_only_asked g.R.Records _ asks.crash))
