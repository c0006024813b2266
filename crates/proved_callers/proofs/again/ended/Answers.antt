use Rattle.std.proofs.Common.{IsTrue, sym, subst}
use Rattle.sqlite.specs.Held.{state}
use Rattle.x12_station.specs.Durable.{IsHistoryOf}
use Rattle.x12_station_records.specs.StationContent.{content_of}
use Rattle.proved_callers.proofs.again.ended.Goals as goal

-- the connection is that of the records that the station leaves
pub returns : goal.returns
returns g c = record {
  written = λ is_open.
      let same = c.into_connection.ensures.same in
      let me = c.args.station.state.me in
      let hubs = c.args.station.state.hubs in
      let was_open = subst (λ conn. IsTrue (state g.S.Store conn).is_open) same is_open in
      subst (λ conn. IsHistoryOf me hubs (content_of (state g.S.Store conn).now.trees)) (sym same) (c.close.ensures.written was_open);
}
