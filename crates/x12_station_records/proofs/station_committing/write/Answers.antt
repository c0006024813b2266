use Rattle.std.proofs.Common.{◌≡◌, true, Ok, Err, subst, rules}
use Rattle.sqlite.specs.Effect.{Database}
use Rattle.sqlite.specs.declared.error.Error.{Error}
use Rattle.sqlite.specs.Held.{state}
use Rattle.sql_rows.proofs.Wholes.{whole_ended}
use Rattle.x12_tables.specs.Change.{ChangesSeen}
use Rattle.x12_station_records.proofs.StationWholes.{part_told, whole_told, whole_handed}
use Rattle.x12_station_records.specs.StationPlan.{FollowsCommit, IsPartWith, IsWholeWith}
use Rattle.x12_station_records.specs.declared.station_committing.NextRows.{NextRows}
use Rattle.x12_station_records.proofs.station_committing.write.Goals as goal

pub returns-clause-whole : goal.returns-clause-whole
returns-clause-whole g c =
    let old = c.args.conn.now in
    let mid = state g.S.Store c.write_plan.new.tx.conn.now in
    let end = c.commit.new.self.0 in
    let to = c.in_ok-to.to in
    let plan : NextRows → Database → Database → Type 0 = FollowsCommit c.args.plan.now c.args.next in
    let same : end ≡ c.conn-2-1.given.0 = search rules in
    let begun = record old { in_transaction = true } in
    let part = subst (λ h. IsPartWith {E = Error} (λ x. ChangesSeen (plan x)) (Ok to) (state g.S.Store h) mid) c.transaction-tx.ensures.begun c.in_ok-to.ensures.part in
    let whole = whole_ended g.S.Store (plan to) old to (Ok c.in_ok-commit.field-0) mid (state g.S.Store end) (part_told plan (state g.S.Store begun) mid to part) c.in_ok-commit.ensures.ok c.in_ok-commit.ensures.err c.in_ok-commit.ensures.survives in
    subst (λ h. IsWholeWith plan (Ok to) (state g.S.Store old) (state g.S.Store h)) same
    (whole_told plan (state g.S.Store old) (state g.S.Store end) to c.in_ok-commit.field-0 whole)

pub returns-in_err-commit-clause-whole : goal.returns-in_err-commit-clause-whole
returns-in_err-commit-clause-whole g c =
    let old = c.args.conn.now in
    let mid = state g.S.Store c.write_plan.new.tx.conn.now in
    let end = c.commit.new.self.0 in
    let to = c.in_ok-to.to in
    let plan : NextRows → Database → Database → Type 0 = FollowsCommit c.args.plan.now c.args.next in
    let same : end ≡ c.conn-2-1.given.0 = search rules in
    let begun = record old { in_transaction = true } in
    let part = subst (λ h. IsPartWith {E = Error} (λ x. ChangesSeen (plan x)) (Ok to) (state g.S.Store h) mid) c.transaction-tx.ensures.begun c.in_ok-to.ensures.part in
    let whole = whole_ended g.S.Store (plan to) old {B = Unit {0}} to (Err c.in_err-commit.field-0.0) mid (state g.S.Store end) (part_told plan (state g.S.Store begun) mid to part) c.in_err-commit.ensures.ok c.in_err-commit.ensures.err c.in_err-commit.ensures.survives in
    subst (λ h. IsWholeWith plan c.from_residual-in_err-commit.result (state g.S.Store old) (state g.S.Store h)) same
    (whole_handed plan (state g.S.Store old) (state g.S.Store end) to c.in_err-commit.field-0.0 _ c.from_residual-in_err-commit.result c.from_residual-in_err-commit.ensures.1 whole)
