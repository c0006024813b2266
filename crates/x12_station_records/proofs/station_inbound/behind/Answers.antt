use Rattle.x12_station_records.proofs.StationStepLemmas.{first_arrived}
use Rattle.x12_station_records.proofs.station_inbound.behind.Goals as goal

pub returns-clause-moved : goal.returns-clause-moved
returns-clause-moved c = first_arrived c.args.number c.args.sent.now c.args.arrived.now c.in_ok-rest.rest.now c.in_ok-rest.ensures.some
