use Rattle.std.proofs.Common.{◌∙◌, ap, sym}
use Rattle.sqlite.specs.Held.{state}
use Rattle.x12_station.specs.Stored.{Stored, marks_of, open_entries}
use Rattle.x12_tables.proofs.ReadLemmas.{then_reads}
use Rattle.x12_station_records.proofs.ReadLemmas.{station_still, station_same}
use Rattle.x12_station_records.proofs.StationNumberLemmas.{newest_view}
use Rattle.x12_station_records.proofs.StationLoadLemmas.{loads}
use Rattle.x12_station_records.specs.StationContent.{content_of}
use Rattle.x12_station_records.specs.StationNumbers.{KeptNumbers}
use Rattle.x12_station_records.proofs.station_loading.load.Goals as goal

pub returns-clause-answers : goal.returns-clause-answers
returns-clause-answers g c =
    let first = state g.S.Store c.args.conn.now in
    let second = state g.S.Store c.load_numbers.new.conn in
    let third = state g.S.Store c.load_agreements.new.conn in
    let fourth = state g.S.Store c.load_open.new.conn in
    let numbers = c.in_ok-numbers.ensures.answers in
    let agreed = c.in_ok-agreements.ensures.answers in
    let opened = c.in_ok-entries.ensures.answers in
    record {
      reads = then_reads first second fourth numbers.reads (then_reads second third fourth agreed.reads opened.reads);
      answered = opened.answered;
      found = λ has is_open.
          let third_open = opened.reads.never_won_back is_open in
          let second_open = agreed.reads.never_won_back third_open in
          let second_has = station_still first second numbers.reads has in
          let second_same = station_same first second numbers.reads has second_open in
          let third_has = station_still second third agreed.reads second_has in
          let third_same = station_same second third agreed.reads second_has third_open in
          let said = numbers.found has second_open in
          loads (content_of first.now.trees) _ _ _ _ _ (c.marks.ensures ∙ ap (λ (n : KeptNumbers). marks_of n.origin) (sym (newest_view c.in_ok-numbers.numbers c.in_ok-numbers.ensures.newest) ∙ said)) (ap (λ (n : KeptNumbers). n.book) said) (ap (λ (n : KeptNumbers). n.seq) said)
          (agreed.found second_has third_open ∙ ap (λ (s : Stored). s.agreements) second_same)
          (opened.found third_has is_open ∙ ap open_entries (third_same ∙ second_same));
    }

pub returns-clause-sound : goal.returns-clause-sound
returns-clause-sound g c = record {
  few = c.in_ok-numbers.ensures.few;
  in_order = c.in_ok-entries.ensures.are_open.in_order;
  used = c.in_ok-entries.ensures.are_open.used;
  laid = c.in_ok-entries.ensures.are_open.laid;
  pending = c.in_ok-entries.ensures.are_open.pending;
  agreed_once = c.in_ok-agreements.ensures.kept.agreed_once;
  agreed = c.in_ok-agreements.ensures.kept.agreed;
}
