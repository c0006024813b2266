-- A station's number.
use Rattle.x12_world.proofs.RunningLemmas.{station_test}
use Rattle.x12_world.proofs.admitting.is_station.Goals as goal

pub returns-clause-station : goal.returns-clause-station
returns-clause-station g c = λ h numbers. station_test h c.args.stations.now c.args.node numbers c.if-node-eq-HUB_NODE.false
