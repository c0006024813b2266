use Rattle.x12_station_records.proofs.station_committing.write_change.Goals as goal

pub returns-in-Agreed-clause-part : goal.returns-in-Agreed-clause-part
returns-in-Agreed-clause-part g c = rw (c.in-Agreed.is) (c.write_agreement.ensures.part c.args.seq)
