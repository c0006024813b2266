use Rattle.sqlite.specs.Held.{state}
use Rattle.x12_outbound.specs.Hubs.{hubs_of}
use Rattle.x12_station_records.proofs.StationOlder.{left_refused, refused_so}
use Rattle.x12_station_records.proofs.station_adopting.test_all.Goals as goal

pub returns-clause-taken : goal.returns-clause-taken
returns-clause-taken g c clean =
    left_refused c.args.oldest c.args.party.now (hubs_of c.args.hubs.now) c.find_records.result (state g.S.Store c.args.conn.now) (state g.S.Store c.find_records.new.conn) c.find_records.ensures.taken c.find_records.ensures.older clean

pub returns-clause-older : goal.returns-clause-older
returns-clause-older g c clean was left = refused_so c.find_records.result _ (c.find_records.ensures.older.older clean left.ready was left.holds)

pub returns-clause-only : goal.returns-clause-only
returns-clause-only g c clean was is = c.find_records.ensures.older.only clean was is
