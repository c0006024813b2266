use Rattle.sqlite.specs.declared.error.Error.{Error}
use Rattle.sqlite.specs.Held.{state}
use Rattle.x12_tables.specs.Change.{ChangesSeen, Always}
use Rattle.x12_station_records.proofs.StationParts.{part_with}
use Rattle.x12_station_records.proofs.StationPlanLemmas.{follows}
use Rattle.x12_station_records.specs.StationChange.{Turns, with_last_numbers}
use Rattle.x12_station_records.specs.StationPlan.{Makes, FollowsCommit}
use Rattle.x12_station_records.proofs.station_committing.write_plan.Goals as goal

pub returns-clause-part : goal.returns-clause-part
returns-clause-part g c =
    let plan = c.args.plan.now in
    let from = c.args.next in
    let view = c.view-view.ensures in
    let a = state g.S.Store c.args.tx.now.conn.now in
    let b = state g.S.Store c.count.new.tx.conn.now in
    let d = state g.S.Store c.write_change.new.tx.conn.now in
    let counted = rw (view.book, view.seq) at c.in_ok-count.ensures.part in
    let changed = rw (view.seq, view.change) at c.write_change.ensures.part in
    part_with {F = Error} (Turns (with_last_numbers plan.book plan.seq) Always) (λ to. Makes plan.seq plan.change from to) (λ to. ChangesSeen (FollowsCommit plan from to)) c.in_ok-count.field-0 c.write_change.result a b d
    (λ to first second. follows a b d plan.book plan.seq plan.change from to first second) counted changed
