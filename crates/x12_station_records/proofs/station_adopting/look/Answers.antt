use Rattle.std.proofs.Common.{◌≡◌, [], rules}
use Rattle.sqlite.specs.Held.{state}
use Rattle.x12_tables.proofs.FindsLemmas.{shown_unchanged}
use Rattle.x12_station_records.specs.StationSchema.{station_schema}
use Rattle.x12_station_records.proofs.station_adopting.look.Goals as goal

pub returns-in-Ok-clause-ours : goal.returns-in-Ok-clause-ours
returns-in-Ok-clause-ours g c =
    let old = state g.S.Store c.args.conn.now in
    let new = state g.S.Store c.ask.new.conn in
    let ours : old.now.schema ≡ station_schema = search rules in
    record {
      found = λ clean.
          let same = shown_unchanged c.args.sql.now [] old new c.in-Ok.rows.items c.requires (c.in-Ok.ensures.shown clean) in
          (record { schema_is = ours; sound = (c.schema.ensures.live same.0.was_open).0 }, same);
      stays = c.in-Ok.ensures.stays;
      mode = c.in-Ok.ensures.mode;
      survives = c.in-Ok.ensures.survives;
    }
