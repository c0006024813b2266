use Rattle.std.proofs.Common.{◌+◌, ◌++◌, ap, map, drop, refl, arith, List}
use Rattle.sqlite.specs.Held.{state}
use Rattle.x12_outbound.specs.declared.entry.Entry.{Entry}
use Rattle.x12_outbound.specs.Entry.{entry_row}
use Rattle.x12_tables.proofs.ReadLemmas.{then_reads}
use Rattle.x12_station_records.proofs.ReadLemmas.{no_reads, station_still, station_same}
use Rattle.x12_station_records.proofs.StationOpenLemmas.{none_left, step_left}
use Rattle.x12_station_records.proofs.StationOpenSteps.{fresh}
use Rattle.x12_station_records.specs.StationContent.{content_of}
use Rattle.x12_station_records.specs.StationOpen.{entries_by}
use Rattle.x12_station_records.proofs.station_loading.load_each.Goals as goal

pub loop-icn-init : goal.loop-icn-init
loop-icn-init g c = record {
  reads = no_reads (state g.S.Store c.args.conn.now);
  answered = λ clean is_open. is_open;
  holds = fresh c.args.book (record { entries = c.new.result; icn = 0; gcn = 0 }) c.new.ensures.items refl refl;
  loaded = λ has is_open. ap (λ (es : List Entry). map entry_row es ++ entries_by (content_of (state g.S.Store c.args.conn.now).now.trees) 0 c.args.numbers.now) c.new.ensures.items;
}

pub loop-icn-preserved : goal.loop-icn-preserved
loop-icn-preserved g c =
    let was = c.loop-icn.invariant in
    let call = c.load_next.ensures in
    let old = state g.S.Store c.args.conn.now in
    let mid = state g.S.Store c.loop-icn.conn in
    let new = state g.S.Store c.load_next.new.conn in
    let i = c.loop-icn.icn-index in
    let xs = c.args.numbers.now in
    record {
      reads = then_reads old mid new was.reads call.reads;
      answered = λ clean is_open. c.in_ok-load_next.ensures.answered clean (was.answered (call.reads.clean clean) is_open);
      holds = c.in_ok-load_next.ensures.holds;
      loaded = λ has is_open.
          let opened = call.reads.never_won_back is_open in
          let same = station_same old mid was.reads has opened in
          step_left (content_of mid.now.trees) (content_of old.now.trees) c.loop-icn.opened c.load_next.new.opened i xs c.loop-icn-test.true (c.in_ok-load_next.ensures.next (station_still old mid was.reads has) is_open (drop (i + 1) xs)) same (was.loaded has opened);
    }

pub returns-in_err-load_next-clause-reads : goal.returns-in_err-load_next-clause-reads
returns-in_err-load_next-clause-reads g c = then_reads (state g.S.Store c.args.conn.now) (state g.S.Store c.loop-icn.conn) (state g.S.Store c.load_next.new.conn) c.loop-icn.invariant.reads c.load_next.ensures.reads

pub returns-clause-loaded : goal.returns-clause-loaded
returns-clause-loaded g c has is_open =
    none_left (content_of (state g.S.Store c.args.conn.now).now.trees) c.loop-icn.opened c.loop-icn.icn-index c.args.numbers.now (omega (arith, c.loop-icn-test.false)) (c.loop-icn.invariant.loaded has is_open)
