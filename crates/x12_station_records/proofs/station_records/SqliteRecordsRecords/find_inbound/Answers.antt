use Rattle.std.proofs.Common.{ap}
use Rattle.sqlite.specs.Effect.{Database}
use Rattle.sqlite.specs.Held.{state}
use Rattle.x12_tables.proofs.ReadLemmas.{told_found, told_asks}
use Rattle.x12_station_records.proofs.ReadLemmas.{station_kept}
use Rattle.x12_station_records.specs.StationContent.{content_of}
use Rattle.x12_station_records.proofs.station_records.SqliteRecordsRecords.find_inbound.Goals as goal

pub returns-clause-valid : goal.returns-clause-valid
returns-clause-valid g c = station_kept c.args.self.now.next (state g.S.Store c.args.self.now.conn) (state g.S.Store c.find_inbound.new.conn) c.find_inbound.ensures.reads c.requires

pub returns-clause-same : goal.returns-clause-same
returns-clause-same g c is_open = ap (λ (db : Database). content_of db.trees) (c.find_inbound.ensures.reads.same (c.requires.settled (c.find_inbound.ensures.reads.never_won_back is_open)) is_open)

pub returns-clause-found : goal.returns-clause-found
returns-clause-found g c is_open = told_found _ c.find_inbound.result c.tell_station.result c.tell_station.ensures.same (c.find_inbound.ensures.found (c.args.self.now.next, c.requires) is_open)

pub returns-clause-crash : goal.returns-clause-crash
returns-clause-crash g c = told_asks _ _ content_of c.find_inbound.result c.tell_station.result (state g.S.Store c.args.self.now.conn) (state g.S.Store c.find_inbound.new.conn) c.tell_station.ensures.same c.find_inbound.ensures
