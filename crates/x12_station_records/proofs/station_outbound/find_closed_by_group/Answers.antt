use Rattle.std.proofs.Common.{◌∙◌, sym, ap, option_and_then}
use Rattle.sqlite.specs.Held.{state}
use Rattle.x12_station.specs.Stored.{Stored, closed_entry}
use Rattle.x12_tables.proofs.ReadLemmas.{answers_made}
use Rattle.x12_station_records.proofs.ReadLemmas.{answers_then, station_still, station_same}
use Rattle.x12_station_records.specs.StationContent.{content_of}
use Rattle.x12_station_records.proofs.station_outbound.find_closed_by_group.Goals as goal

pub returns-in-Some-clause-answers : goal.returns-in-Some-clause-answers
returns-in-Some-clause-answers g c =
    let old = state g.S.Store c.args.conn.now in
    let mid = state g.S.Store c.find_number.new.conn in
    let first = c.in_ok-number.ensures in
    answers_then _ _ _ c.find_closed.result old mid (state g.S.Store c.find_closed.new.conn) first.reads c.find_closed.ensures.answers
    (λ opened has. (
      station_still old mid first.reads has,
      λ o told.
          told ∙ ap (λ (s : Stored). closed_entry s c.in-Some.icn) (station_same old mid first.reads has opened) ∙ ap (option_and_then (closed_entry (content_of old.now.trees))) (sym c.in-Some.is ∙ first.found has opened),
    ))

pub returns-in-None-clause-answers : goal.returns-in-None-clause-answers
returns-in-None-clause-answers g c =
    let old = state g.S.Store c.args.conn.now in
    answers_made _ _ _ _ _ old (state g.S.Store c.find_number.new.conn) c.in_ok-number.ensures
    (λ has o found. ap (option_and_then (closed_entry (content_of old.now.trees))) (sym c.in-None.is ∙ found))
