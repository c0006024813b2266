use Rattle.sqlite.specs.Held.{state}
use Rattle.sql_rows.proofs.Parts.{part_then}
use Rattle.x12_hub.specs.Record.{hub_act_view}
use Rattle.x12_tables.specs.Change.{Always, ChangesSeen}
use Rattle.x12_hub_records.proofs.MakeLemmas.{planned}
use Rattle.x12_hub_records.specs.HubChange.{TurnsHub, with_last_hub_numbers, MakesHubAct, FollowsHubCommit}
use Rattle.x12_hub_records.proofs.committing.make.Goals as goal

pub returns-clause-part : goal.returns-clause-part
returns-clause-part g c =
    let a = state g.S.Store c.args.tx.now.conn.now in
    let b = state g.S.Store c.change.new.tx.conn.now in
    let z = state g.S.Store c.count.new.tx.conn.now in
    let view = c.view-view.result in
    part_then (MakesHubAct c.args.at view.item (hub_act_view view.change.now)) (TurnsHub (with_last_hub_numbers view.icn view.item) Always) (ChangesSeen (FollowsHubCommit c.args.at c.args.plan.now)) c.in_ok-change.field-0 c.count.result
    a b z (planned a b z c.args.at view.icn view.item (hub_act_view view.change.now) c.args.plan.now c.view-view.ensures.icn c.view-view.ensures.item c.view-view.ensures.change) c.in_ok-change.ensures.part c.count.ensures.part
