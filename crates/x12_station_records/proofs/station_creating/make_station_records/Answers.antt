use Rattle.sqlite.specs.Held.{state}
use Rattle.sql_rows.proofs.Parts.{part_then}
use Rattle.x12_tables.specs.Change.{ChangesSeen}
use Rattle.x12_station_records.specs.StationCreate.{Founds, Starts, NewRecords}
use Rattle.x12_outbound.specs.Hubs.{hubs_of}
use Rattle.x12_station_records.proofs.station_creating.make_station_records.Goals as goal

pub returns-clause-part : goal.returns-clause-part
returns-clause-part g c =
    part_then Founds (Starts c.args.party.now (hubs_of c.args.hubs.now)) (ChangesSeen (NewRecords c.args.party.now (hubs_of c.args.hubs.now))) c.in_ok-create_station_tables.field-0 c.start_station.result (state g.S.Store c.args.tx.now.conn.now) (state g.S.Store c.create_station_tables.new.tx.conn.now) (state g.S.Store c.start_station.new.tx.conn.now)
    (λ founds starts has. starts (founds has)) c.in_ok-create_station_tables.ensures.part c.start_station.ensures.part
