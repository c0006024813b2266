use Rattle.std.proofs.Common.{◌≡◌, ◌∙◌, sym, ap, subst, option_map, Vec, ℕ}
use Rattle.std.specs.Global.{Global}
use Rattle.sqlite.specs.Held.{state}
use Rattle.x12_station.specs.Stored.{Stored, marks_of}
use Rattle.x12_tables.proofs.ReadLemmas.{answers_made}
use Rattle.x12_station_records.proofs.ReadLemmas.{answers_then, station_still, station_same}
use Rattle.x12_station_records.proofs.StationItemLemmas.{sent_item, arrived_else}
use Rattle.x12_station_records.specs.StationContent.{content_of}
use Rattle.x12_station_records.specs.StationFinds.{arrival_numbered}
use Rattle.x12_station.specs.Record.{history_item}
use Rattle.x12_station.specs.Durable.{item_of_arrival}
use Rattle.x12_station_records.proofs.station_inbound.find_item.Goals as goal

pub returns-in-Some : goal.returns-in-Some
returns-in-Some g c =
    let old = state g.S.Store c.args.conn.now in
    answers_made _ _ _ _ _ old (state g.S.Store c.find_submitted.new.conn) c.in_ok-submitted.ensures
    (λ has o found. sent_item (content_of old.now.trees) c.args.seq c.in-Some.bytes.items (sym (ap (option_map (λ (v : Vec ℕ Global). v.items)) c.in-Some.is) ∙ found))

pub returns-in-None : goal.returns-in-None
returns-in-None g c =
    let old = state g.S.Store c.args.conn.now in
    let mid = state g.S.Store c.find_submitted.new.conn in
    let first = c.in_ok-submitted.ensures in
    answers_then _ _ _ c.find_arrived.result old mid (state g.S.Store c.find_arrived.new.conn) first.reads c.find_arrived.ensures
    (λ opened has. (
      station_still old mid first.reads has,
      λ o told.
          let none = sym (ap (option_map (λ (v : Vec ℕ Global). v.items)) c.in-None.is) ∙ first.found has opened in
          let Told = λ (s : Stored). option_map (history_item (marks_of s.origin) c.args.seq) o ≡ option_map (item_of_arrival (marks_of s.origin) c.args.seq) (arrival_numbered s c.args.seq) in
          subst Told (station_same old mid first.reads has opened) told ∙ arrived_else (content_of old.now.trees) c.args.seq none,
    ))
