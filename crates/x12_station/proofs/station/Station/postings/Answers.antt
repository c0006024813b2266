use Rattle.x12_station.proofs.StoppedLemmas.{step_only_asked, whole}
use Rattle.x12_station.proofs.station.Station.postings.Goals as goal

pub returns-in_err-postings-clause-crash : goal.returns-in_err-postings-clause-crash
returns-in_err-postings-clause-crash g c =
    let m = c.self.inside.memory in
    let asks = c.postings.ensures in
    rw (← c.self.view_is) (whole g.R.Records _ m.ledger.holds m.ledger.holds m.counts m.counts (λ d answers may. g.met.R.Records.left_is_held c.postings.new.self d asks.valid answers may) (step_only_asked g.R.Records _ asks.crash))

pub returns-clause-crash : goal.returns-clause-crash
returns-clause-crash g c =
    let m = c.self.inside.memory in
    let asks = c.postings.ensures in
    rw (← c.self.view_is) (whole g.R.Records _ m.ledger.holds m.ledger.holds m.counts m.counts (λ d answers may. g.met.R.Records.left_is_held c.postings.new.self d asks.valid answers may) (step_only_asked g.R.Records _ asks.crash))
