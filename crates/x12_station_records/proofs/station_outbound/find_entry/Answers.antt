use Rattle.std.proofs.Common.{◌∙◌, sym, ap, option_map}
use Rattle.sqlite.specs.Held.{state}
use Rattle.x12_station.specs.Stored.{Stored}
use Rattle.x12_tables.proofs.ReadLemmas.{answers_made, then_reads}
use Rattle.x12_station_records.proofs.ReadLemmas.{station_still, station_same}
use Rattle.x12_station_records.proofs.StationEntryLemmas.{no_entry}
use Rattle.x12_station_records.specs.StationContent.{content_of}
use Rattle.x12_station_records.specs.StationEntries.{head_view, head_numbered, entry_numbered}
use Rattle.x12_station_records.proofs.station_outbound.find_entry.Goals as goal

pub returns-in_ok-put_together-in-Some-clause-answers : goal.returns-in_ok-put_together-in-Some-clause-answers
returns-in_ok-put_together-in-Some-clause-answers g c =
    let old = state g.S.Store c.args.conn.now in
    let mid = state g.S.Store c.find_head.new.conn in
    let new = state g.S.Store c.put_together.new.conn in
    let first = c.in_ok-found.ensures in
    let second = c.in_ok-put_together-in-Some.ensures.answers in
    record {
      reads = then_reads old mid new first.reads second.reads;
      answered = second.answered;
      found = λ has is_open.
          let opened = second.reads.never_won_back is_open in
          let same = station_same old mid first.reads has opened in
          let head = sym (ap (option_map head_view) c.in-Some.is) ∙ first.found has opened in
          second.found (station_still old mid first.reads has) is_open (head ∙ ap (λ (s : Stored). head_numbered s c.args.icn) (sym same)) ∙ ap (λ (s : Stored). entry_numbered s c.args.icn) same;
    }

pub returns-in-None-clause-answers : goal.returns-in-None-clause-answers
returns-in-None-clause-answers g c =
    let old = state g.S.Store c.args.conn.now in
    answers_made _ _ _ _ _ old (state g.S.Store c.find_head.new.conn) c.in_ok-found.ensures
    (λ has o found. no_entry c.args.icn (content_of old.now.trees) (sym (ap (option_map head_view) c.in-None.is) ∙ found))
