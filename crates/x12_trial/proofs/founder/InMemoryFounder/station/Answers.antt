use Rattle.x12_trial.proofs.founder.InMemoryFounder.station.Goals as goal

-- records that hold nothing were written by the station whose they are
pub open-requires-clause-written : goal.open-requires-clause-written
open-requires-clause-written c = λ answers. c.new-records.ensures.durable
