use Rattle.sqlite.specs.Held.{state}
use Rattle.sql_rows.proofs.Parts.{part_then}
use Rattle.x12_tables.specs.Change.{ChangesSeen}
use Rattle.x12_hub_records.specs.HubCreate.{FoundsHub, StartsHub, NewHubRecords}
use Rattle.x12_hub_records.proofs.creating.make_records.Goals as goal

pub returns-clause-part : goal.returns-clause-part
returns-clause-part g c =
    part_then FoundsHub (StartsHub c.args.party.now) (ChangesSeen (NewHubRecords c.args.party.now)) c.in_ok-create_tables.field-0 c.start_numbers.result (state g.S.Store c.args.tx.now.conn.now) (state g.S.Store c.create_tables.new.tx.conn.now) (state g.S.Store c.start_numbers.new.tx.conn.now)
    (λ founds starts has. starts (founds has)) c.in_ok-create_tables.ensures.part c.start_numbers.ensures.part
