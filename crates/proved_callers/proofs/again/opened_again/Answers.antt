use Rattle.std.proofs.Common.{◌≡◌, IsTrue, sym, subst}
use Rattle.sqlite.proofs.StateLemmas.{clean_if_open}
use Rattle.sqlite.specs.Effect.{Database}
use Rattle.sqlite.specs.Held.{state}
use Rattle.sqlite.specs.State.{HasCleanDisk}
use Rattle.x12_station.specs.Durable.{IsHistoryOf}
use Rattle.x12_station_records.specs.StationContent.{content_of}
use Rattle.proved_callers.proofs.again.opened_again.Goals as goal

-- what the station left is what is found, so that a station of its party and hubs wrote it
pub open-requires-clause-written : goal.open-requires-clause-written
open-requires-clause-written g c = λ open1.
    let left = state g.S.Store c.ended.result in
    let new = state g.S.Store c.in-Ok.records.conn in
    let law : IsTrue new.is_open → HasCleanDisk new = clean_if_open (g.S.Store.view c.in-Ok.records.conn.store) (g.met.S.Store.shut_if_dirty c.in-Ok.records.conn.store) in
    let now : new.now ≡ left.now = (c.in-Ok.ensures.found (law open1)).same in
    rw (c.party-me.ensures.party, c.other-other.ensures, c.hub-hub.ensures) (subst (λ (db : Database). IsHistoryOf c.args.station.state.me c.args.station.state.hubs (content_of db.trees)) (sym now) (c.ended.ensures.written (c.in-Ok.ensures.never_won_back open1)))
