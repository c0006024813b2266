-- The ledger's open rows are the open submissions.
use Rattle.std.proofs.Common.{◌∙◌}
use Rattle.x12_station.proofs.TickLemmas.{open_is}
use Rattle.x12_station.proofs.station.Station.open_count.Goals as goal

pub returns-clause-open : goal.returns-clause-open
returns-clause-open g c =
    let m = c.self.inside.memory in
    let s = g.R.Records.content c.self.inside.records in
    let was = c.self.invariant in
    rw (← c.self.view_is) (λ answers. c.open_count.ensures ∙ open_is m s (was.held answers).0 (was.held answers).1)
