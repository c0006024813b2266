use Rattle.sqlite.specs.Held.{state}
use Rattle.sql_rows.proofs.Parts.{part_then}
use Rattle.x12_tables.specs.Change.{Always}
use Rattle.x12_hub_records.specs.HubChange.{TurnsHub, EntersHub, without_party, with_entry, enrolled_too}
use Rattle.x12_hub_records.proofs.directory.enrol.Goals as goal

pub returns-clause-part : goal.returns-clause-part
returns-clause-part g c =
    part_then (TurnsHub (without_party c.args.party.now) Always) (EntersHub c.args.at (with_entry c.args.party.now c.args.node)) (EntersHub c.args.at (enrolled_too c.args.party.now c.args.node)) c.in_ok-dismiss.field-0 c.enter.result
    (state g.S.Store c.args.tx.now.conn.now) (state g.S.Store c.dismiss.new.tx.conn.now) (state g.S.Store c.enter.new.tx.conn.now)
    (λ first second last s above has. second last (without_party c.args.party.now s) above (first last s tt has)) c.in_ok-dismiss.ensures.part c.enter.ensures.part
