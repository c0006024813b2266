-- What is read of the station at a place is said at its node.
use Rattle.x12_world.proofs.RunningLemmas.{station_there}
use Rattle.x12_world.proofs.asking.counts_at.Goals as goal

pub returns-clause-counts : goal.returns-clause-counts
returns-clause-counts g c = λ h numbers.
    let number = c.is_station.ensures.number c.if-not-is_station.false in
    let s = c.index-stations-node.result in
    (s.state, station_there h c.args.stations.now c.args.node s numbers number.0 number.1 c.index-stations-node.is, c.counts.ensures)
