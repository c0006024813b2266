use Rattle.sqlite.specs.Held.{state}
use Rattle.sql_rows.proofs.Parts.{part_then, part_refused}
use Rattle.x12_hub.specs.Hub.{Boxed}
use Rattle.x12_hub.specs.Plan.{Decides, hub_changed}
use Rattle.x12_hub_records.proofs.MakeLemmas.{made_box}
use Rattle.x12_hub_records.specs.HubChange.{TurnsHub, decided_too, decision_of, HasNext, put_in, RisesWith, FitsAfter}
use Rattle.x12_hub_records.proofs.committing.box_item.Goals as goal

pub returns-in_err-add_boxed-clause-part : goal.returns-in_err-add_boxed-clause-part
returns-in_err-add_boxed-clause-part g c =
    part_refused (TurnsHub (decided_too (decision_of c.args.bytes.now (Boxed c.args.node c.args.boxed))) (HasNext c.args.item))
    (TurnsHub (hub_changed (Decides c.args.bytes.now (Boxed c.args.node c.args.boxed))) (FitsAfter c.args.item (Decides c.args.bytes.now (Boxed c.args.node c.args.boxed))))
    c.in_err-add_boxed.field-0.0 _ c.from_residual.result (state g.S.Store c.args.tx.now.conn.now) (state g.S.Store c.add_boxed.new.tx.conn.now) c.from_residual.ensures.1 (c.in_err-add_boxed.ensures.part c.args.boxed)

pub returns-clause-part : goal.returns-clause-part
returns-clause-part g c =
    let a = state g.S.Store c.args.tx.now.conn.now in
    let b = state g.S.Store c.add_boxed.new.tx.conn.now in
    let z = state g.S.Store c.put.new.tx.conn.now in
    part_then (TurnsHub (decided_too (decision_of c.args.bytes.now (Boxed c.args.node c.args.boxed))) (HasNext c.args.item)) (TurnsHub (put_in c.args.node c.args.boxed) (RisesWith c.args.node c.args.boxed))
    (TurnsHub (hub_changed (Decides c.args.bytes.now (Boxed c.args.node c.args.boxed))) (FitsAfter c.args.item (Decides c.args.bytes.now (Boxed c.args.node c.args.boxed)))) c.in_ok-add_boxed.field-0 c.put.result
    a b z (made_box a b z c.args.item c.args.node c.args.boxed c.args.bytes.now) (c.in_ok-add_boxed.ensures.part c.args.boxed) c.put.ensures.part
