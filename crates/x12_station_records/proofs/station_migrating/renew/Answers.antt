use Rattle.std.proofs.Common.{pos, [], ◌∷◌, OnOk}
use Rattle.sqlite.specs.declared.types.Value.TheVariants.{Int}
use Rattle.sqlite.specs.Held.{state}
use Rattle.sqlite.specs.State.{HasCleanDisk}
use Rattle.sql_rows.specs.Kept.{RanInside}
use Rattle.sql_rows.proofs.Parts.{part_of}
use Rattle.x12_tables.specs.Change.{ChangesSeen}
use Rattle.x12_station_records.proofs.StationMigrateLemmas.{renew_text, renews_rows}
use Rattle.x12_station_records.proofs.StationValueLemmas.{kept_integer}
use Rattle.x12_station_records.specs.StationMigrate.{Renews}
use Rattle.x12_station_records.proofs.station_migrating.renew.Goals as goal

pub returns-clause-part : goal.returns-clause-part
returns-clause-part g c =
    let old = state g.S.Store c.args.tx.now.conn.now in
    let new = state g.S.Store c.run.new.tx.conn.now in
    let params = Int (pos c.args.noted) ∷ Int (pos c.args.era) ∷ [] in
    let ran : HasCleanDisk new → OnOk c.run.result (RanInside renew_text params old new) = λ clean.
    rw (c.in_ok-noted.ensures.ok, kept_integer c.args.noted c.in_ok-noted.ensures.few, c.in_ok-era.ensures.ok, kept_integer c.args.era c.in_ok-era.ensures.few) at (c.run.ensures.ran clean) in
    part_of (ChangesSeen (Renews c.args.noted c.args.era)) renew_text params old new (λ it. renews_rows old new c.args.noted c.args.era it.count it.ran) c.run.result ran c.run.ensures.keeps c.run.ensures.survives
