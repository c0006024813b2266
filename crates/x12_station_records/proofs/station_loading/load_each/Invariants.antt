-- records were only read; what was put together, and what is found by the numbers that are left, is
-- what is found by all
use Rattle.std.proofs.Common.{◌≡◌, ◌++◌, IsTrue, map, drop}
use Rattle.sqlite.specs.Held.{state}
use Rattle.x12_outbound.specs.Entry.{entry_row}
use Rattle.x12_tables.specs.Read.{OnlyReads}
use Rattle.x12_station_records.specs.StationContent.{content_of}
use Rattle.x12_station_records.specs.StationOpen.{entries_by, IsOpened}
use Rattle.x12_station_records.specs.StationRead.{HasValid}
use Rattle.x12_station_records.proofs.station_loading.load_each.Given as goal

abbrev pub invariant-loop-icn : goal.invariant-loop-icn
invariant-loop-icn g l = record {
  reads : OnlyReads (state g.S.Store l.fn.conn) (state g.S.Store l.conn);
  answered : IsTrue (state g.S.Store l.conn).is_clean → IsTrue (state g.S.Store l.fn.conn).is_open → IsTrue (state g.S.Store l.conn).is_open;
  holds : IsOpened l.fn.book l.opened;
  loaded : HasValid (state g.S.Store l.fn.conn) → IsTrue (state g.S.Store l.conn).is_open
      → map entry_row l.opened.entries.items ++ entries_by (content_of (state g.S.Store l.fn.conn).now.trees) l.opened.icn (drop l.icn-index l.fn.numbers) ≡ entries_by (content_of (state g.S.Store l.fn.conn).now.trees) 0 l.fn.numbers;
}
