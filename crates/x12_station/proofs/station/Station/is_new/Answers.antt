use Rattle.x12_station.proofs.NewLemmas.{state_new, untouched_by}
use Rattle.x12_station.proofs.station.Station.is_new.Goals as goal

pub returns-clause-new : goal.returns-clause-new
returns-clause-new g c =
    let m = c.self.inside.memory in
    let s = g.R.Records.content c.self.inside.records in
    let was = c.self.invariant in
    rw (← c.self.view_is) (λ answers yes. state_new m s (was.held answers).0 (was.held answers).1 (c.is_untouched.ensures.yes yes))

pub returns-clause-old : goal.returns-clause-old
returns-clause-old g c =
    let m = c.self.inside.memory in
    let s = g.R.Records.content c.self.inside.records in
    let was = c.self.invariant in
    rw (← c.self.view_is) (λ answers e. c.is_untouched.ensures.no (untouched_by m s (was.held answers).0 (was.held answers).1 e))
