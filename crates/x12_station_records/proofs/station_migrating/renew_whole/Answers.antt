use Rattle.std.proofs.Common.{◌≡◌, Ok, subst, rules}
use Rattle.sqlite.specs.Held.{state}
use Rattle.sql_rows.specs.Kept.{IsPart, IsWhole}
use Rattle.sql_rows.proofs.Wholes.{whole_ended}
use Rattle.x12_tables.specs.Change.{ChangesSeen}
use Rattle.x12_station_records.specs.StationMigrate.{Renews}
use Rattle.x12_station_records.proofs.station_migrating.renew_whole.Goals as goal

pub returns-clause-whole : goal.returns-clause-whole
returns-clause-whole g c =
    let change = Renews c.args.noted c.args.era in
    let old = c.args.conn.now in
    let mid = state g.S.Store c.renew.new.tx.conn.now in
    let end = c.commit.new.self.0 in
    let same : end ≡ c.conn-2-1.given.0 = search rules in
    let part = subst (λ h. IsPart (ChangesSeen change) (Ok c.in_ok-renew.field-0) (state g.S.Store h) mid) c.transaction-tx.ensures.begun c.in_ok-renew.ensures.part in
    subst (λ h. IsWhole change c.commit.result (state g.S.Store old) (state g.S.Store h)) same
    (whole_ended g.S.Store change old c.in_ok-renew.field-0 c.commit.result mid (state g.S.Store end) part c.commit.ensures.ok c.commit.ensures.err c.commit.ensures.survives)
