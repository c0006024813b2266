use Rattle.std.proofs.Common.{sym, subst}
use Rattle.sqlite.specs.Held.{state}
use Rattle.sql_rows.specs.Kept.{IsPart}
use Rattle.sql_rows.proofs.Parts.{part_weaker}
use Rattle.x12_hub.specs.Plan.{Decides, PutsBack, TakesOut, Enrols, Dismisses, hub_changed}
use Rattle.x12_hub.specs.Record.{hub_act_view, decision_view}
use Rattle.x12_tables.specs.Change.{Always}
use Rattle.x12_hub_records.proofs.MakeLemmas.{made_decision, made_put, made_take, made_enrol, made_dismiss}
use Rattle.x12_hub_records.specs.HubChange.{TurnsHub, EntersHub, taken_out, put_in, RisesWith, without_party, enrolled_too, FitsAfter, MakesHubAct}
use Rattle.x12_hub_records.proofs.committing.change.Goals as goal

pub returns-in-Decided-clause-part : goal.returns-in-Decided-clause-part
returns-in-Decided-clause-part g c =
    let a = state g.S.Store c.args.tx.now.conn.now in
    let b = state g.S.Store c.decide.new.tx.conn.now in
    let at = c.args.at in
    let item = c.args.item in
    subst (λ ch. IsPart (MakesHubAct at item (hub_act_view ch)) c.decide.result a b) (sym c.in-Decided.is)
    (part_weaker (TurnsHub (hub_changed (Decides c.in-Decided.bytes.items (decision_view c.in-Decided.decision))) (FitsAfter item (Decides c.in-Decided.bytes.items (decision_view c.in-Decided.decision)))) (MakesHubAct at item (Decides c.in-Decided.bytes.items (decision_view c.in-Decided.decision))) c.decide.result a b (made_decision a b at item c.in-Decided.bytes.items (decision_view c.in-Decided.decision)) (subst (λ body. IsPart (TurnsHub (hub_changed (Decides body (decision_view c.in-Decided.decision))) (FitsAfter item (Decides body (decision_view c.in-Decided.decision)))) c.decide.result a b) c.deref.ensures.value c.decide.ensures.part))

pub returns-in-PutBack-clause-part : goal.returns-in-PutBack-clause-part
returns-in-PutBack-clause-part g c =
    let a = state g.S.Store c.args.tx.now.conn.now in
    let b = state g.S.Store c.put.new.tx.conn.now in
    let at = c.args.at in
    let item = c.args.item in
    subst (λ ch. IsPart (MakesHubAct at item (hub_act_view ch)) c.put.result a b) (sym c.in-PutBack.is)
    (part_weaker (TurnsHub (put_in c.in-PutBack.node c.in-PutBack.item) (RisesWith c.in-PutBack.node c.in-PutBack.item)) (MakesHubAct at item (PutsBack c.in-PutBack.node c.in-PutBack.item)) c.put.result a b (made_put a b at item c.in-PutBack.node c.in-PutBack.item) c.put.ensures.part)

pub returns-in-TakenOut-clause-part : goal.returns-in-TakenOut-clause-part
returns-in-TakenOut-clause-part g c =
    let a = state g.S.Store c.args.tx.now.conn.now in
    let b = state g.S.Store c.take.new.tx.conn.now in
    let at = c.args.at in
    let item = c.args.item in
    subst (λ ch. IsPart (MakesHubAct at item (hub_act_view ch)) c.take.result a b) (sym c.in-TakenOut.is)
    (part_weaker (TurnsHub (taken_out c.in-TakenOut.item) Always) (MakesHubAct at item (TakesOut c.in-TakenOut.item)) c.take.result a b (made_take a b at item c.in-TakenOut.item) c.take.ensures.part)

pub returns-in-Enrolled-clause-part : goal.returns-in-Enrolled-clause-part
returns-in-Enrolled-clause-part g c =
    let a = state g.S.Store c.args.tx.now.conn.now in
    let b = state g.S.Store c.enrol.new.tx.conn.now in
    let at = c.args.at in
    let item = c.args.item in
    subst (λ ch. IsPart (MakesHubAct at item (hub_act_view ch)) c.enrol.result a b) (sym c.in-Enrolled.is)
    (part_weaker (EntersHub at (enrolled_too c.in-Enrolled.party c.in-Enrolled.node)) (MakesHubAct at item (Enrols c.in-Enrolled.party c.in-Enrolled.node)) c.enrol.result a b (made_enrol a b at item c.in-Enrolled.party c.in-Enrolled.node) c.enrol.ensures.part)

pub returns-in-Dismissed-clause-part : goal.returns-in-Dismissed-clause-part
returns-in-Dismissed-clause-part g c =
    let a = state g.S.Store c.args.tx.now.conn.now in
    let b = state g.S.Store c.dismiss.new.tx.conn.now in
    let at = c.args.at in
    let item = c.args.item in
    subst (λ ch. IsPart (MakesHubAct at item (hub_act_view ch)) c.dismiss.result a b) (sym c.in-Dismissed.is)
    (part_weaker (TurnsHub (without_party c.in-Dismissed.party) Always) (MakesHubAct at item (Dismisses c.in-Dismissed.party)) c.dismiss.result a b (made_dismiss a b at item c.in-Dismissed.party) c.dismiss.ensures.part)
