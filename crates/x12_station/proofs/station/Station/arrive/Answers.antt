use Rattle.x12_station.proofs.StoppedLemmas.{whole}
use Rattle.x12_station.proofs.station.Station.arrive.Goals as goal

pub returns-clause-crash : goal.returns-clause-crash
returns-clause-crash g c =
    let m = c.self.inside.memory in
    let n = c.answer.new.memory in
    rw (← c.self.view_is)
    (whole g.R.Records _ m.ledger.holds n.ledger.holds m.counts n.counts (λ d answers may. g.met.R.Records.left_is_held c.answer.new.records d c.answer.ensures.stands.valid answers may) c.answer.ensures.crash)
