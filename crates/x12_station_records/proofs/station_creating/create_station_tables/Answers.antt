use Rattle.sqlite.specs.Held.{state}
use Rattle.sql_rows.proofs.Parts.{part_then}
use Rattle.x12_station_records.specs.StationCreate.{FoundsOutbound, FoundsInbound, Founds}
use Rattle.x12_station_records.proofs.station_creating.create_station_tables.Goals as goal

pub returns-clause-part : goal.returns-clause-part
returns-clause-part g c =
    part_then FoundsOutbound FoundsInbound Founds c.in_ok-create_outbound.field-0 c.create_inbound.result (state g.S.Store c.args.tx.now.conn.now) (state g.S.Store c.create_outbound.new.tx.conn.now) (state g.S.Store c.create_inbound.new.tx.conn.now)
    (λ first last has. last (first has)) c.in_ok-create_outbound.ensures.part c.create_inbound.ensures.part
