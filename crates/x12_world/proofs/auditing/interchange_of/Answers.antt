use Rattle.x12_acks.specs.Key.{key_view}
use Rattle.x12_world.proofs.auditing.interchange_of.Goals as goal
use Rattle.x12_world.proofs.AuditingLemmas.{alone}

pub returns-clause-alone : goal.returns-clause-alone
returns-clause-alone g c answers rising =
    alone c.args.station.now.state.items (key_view c.args.key.now) c.submission.result rising (c.submission.ensures.submission answers)
