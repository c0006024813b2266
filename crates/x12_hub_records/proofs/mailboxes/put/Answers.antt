use Rattle.sqlite.specs.Held.{state}
use Rattle.sql_rows.proofs.Parts.{part_then}
use Rattle.x12_tables.specs.Change.{Always}
use Rattle.x12_hub_records.specs.HubChange.{TurnsHub, taken_out, put_in, Adds, RisesWith}
use Rattle.x12_hub_records.proofs.mailboxes.put.Goals as goal

pub returns-clause-part : goal.returns-clause-part
returns-clause-part g c =
    part_then (TurnsHub (taken_out c.args.item) Always) (Adds c.args.node c.args.item) (TurnsHub (put_in c.args.node c.args.item) (RisesWith c.args.node c.args.item)) c.in_ok-take.field-0 c.add.result
    (state g.S.Store c.args.tx.now.conn.now) (state g.S.Store c.take.new.tx.conn.now) (state g.S.Store c.add.new.tx.conn.now)
    (λ first second last s rising has. second last s rising (first last s tt has)) c.in_ok-take.ensures.part c.add.ensures.part
