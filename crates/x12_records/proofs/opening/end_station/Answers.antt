use Rattle.std.proofs.Common.{arith, refl, subst}
use Rattle.sqlite.specs.Held.{state}
use Rattle.sqlite.specs.State.{HasCleanDisk}
use Rattle.sqlite_trees.proofs.Doubt.{clean_of}
use Rattle.x12_station_records.specs.StationContent.{content_of}
use Rattle.x12_records.proofs.WrittenLemmas.{written_of}
use Rattle.x12_records.proofs.opening.end_station.Goals as goal

pub returns : goal.returns
returns g c = record {
  numbered = c.into_store.ensures.numbered;
  sound = c.into_store.ensures.sound;
  left = λ clean db may.
      let me = c.args.station.state.me in
      let hubs = c.args.station.state.hubs in
      let same = c.into_connection.ensures.same in
      let quiet = c.into_store.ensures.quiet in
      let conn_clean : HasCleanDisk (state g.S.Store c.into_connection.result) = omega (arith, clean, quiet.clean) in
      let before = subst (λ conn. (state g.S.Store conn).may_leave db) same (quiet.outcomes db may) in
      let was_clean = subst (λ conn. HasCleanDisk (state g.S.Store conn)) same conn_clean in
      written_of me hubs (content_of db) (c.close.ensures.left (clean_of _ was_clean) (content_of db) (db, before, refl));
}
