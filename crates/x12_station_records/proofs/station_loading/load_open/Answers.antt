use Rattle.std.proofs.Common.{◌∙◌, ap}
use Rattle.std.proofs.lemmas.Result.{IfOk-weaker}
use Rattle.sqlite.specs.Held.{state}
use Rattle.x12_station.specs.Stored.{Stored}
use Rattle.x12_tables.proofs.ReadLemmas.{then_reads}
use Rattle.x12_station_records.proofs.ReadLemmas.{station_still, station_same}
use Rattle.x12_station_records.proofs.StationOpenLemmas.{open_are, on_ok}
use Rattle.x12_station_records.specs.StationContent.{content_of}
use Rattle.x12_station_records.specs.StationOpen.{entries_by}
use Rattle.x12_station_records.proofs.station_loading.load_open.Goals as goal

pub returns-clause-answers : goal.returns-clause-answers
returns-clause-answers g c =
    let old = state g.S.Store c.args.conn.now in
    let mid = state g.S.Store c.load_open_numbers.new.conn in
    let s = content_of old.now.trees in
    let first = c.in_ok-numbers.ensures in
    let each = c.load_each.ensures in
    record {
      reads = then_reads old mid (state g.S.Store c.load_each.new.conn) first.reads each.reads;
      answered = λ clean. on_ok c.load_each.result (λ still. still (first.answered (each.reads.clean clean))) (each.answered clean);
      found = λ has is_open.
          let opened = each.reads.never_won_back is_open in
          let same = station_same old mid first.reads has opened in
          let numbers = c.deref.ensures.value ∙ first.found has opened in
          let sound = has.1.sound (first.reads.never_won_back opened) in
          IfOk-weaker c.load_each.result _ _ (λ v told. told ∙ ap (λ (t : Stored). entries_by t 0 c.deref.result.now) same ∙ ap (entries_by s 0) numbers ∙ open_are s sound) (each.loaded (station_still old mid first.reads has) is_open);
    }
