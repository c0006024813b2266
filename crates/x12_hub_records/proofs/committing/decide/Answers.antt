use Rattle.std.proofs.Common.{sym, subst}
use Rattle.sqlite.specs.Held.{state}
use Rattle.sql_rows.specs.Kept.{IsPart}
use Rattle.sql_rows.proofs.Parts.{part_weaker}
use Rattle.x12_hub.specs.Hub.{Refused}
use Rattle.x12_hub.specs.Plan.{Decides, hub_changed}
use Rattle.x12_hub.specs.Record.{decision_view}
use Rattle.x12_hub_records.proofs.MakeLemmas.{made_refusal}
use Rattle.x12_hub_records.specs.HubChange.{TurnsHub, decided_too, decision_of, HasNext, FitsAfter}
use Rattle.x12_hub_records.proofs.committing.decide.Goals as goal

pub returns-in-Boxed-clause-part : goal.returns-in-Boxed-clause-part
returns-in-Boxed-clause-part g c =
    subst (λ d. IsPart (TurnsHub (hub_changed (Decides c.args.bytes.now (decision_view d))) (FitsAfter c.args.item (Decides c.args.bytes.now (decision_view d)))) c.box_item.result
    (state g.S.Store c.args.tx.now.conn.now) (state g.S.Store c.box_item.new.tx.conn.now)) (sym c.in-Boxed.is) c.box_item.ensures.part

pub returns-in-Refused-clause-part : goal.returns-in-Refused-clause-part
returns-in-Refused-clause-part g c =
    let a = state g.S.Store c.args.tx.now.conn.now in
    let b = state g.S.Store c.add_refused.new.tx.conn.now in
    let body = c.args.bytes.now in
    let item = c.args.item in
    let part = subst (λ reply. IsPart (TurnsHub (decided_too (decision_of body (Refused reply))) (HasNext item)) c.add_refused.result a b) c.deref.ensures.value c.add_refused.ensures.part in
    let reply = c.in-Refused.reply.items in
    subst (λ d. IsPart (TurnsHub (hub_changed (Decides body (decision_view d))) (FitsAfter item (Decides body (decision_view d)))) c.add_refused.result a b) (sym c.in-Refused.is)
    (part_weaker (TurnsHub (decided_too (decision_of body (Refused reply))) (HasNext item)) (TurnsHub (hub_changed (Decides body (Refused reply))) (FitsAfter item (Decides body (Refused reply)))) c.add_refused.result a b
    (made_refusal a b item body reply) part)
