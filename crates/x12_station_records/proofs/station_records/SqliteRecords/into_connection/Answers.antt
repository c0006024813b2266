use Rattle.std.proofs.Common.{arith, refl}
use Rattle.x12_station_records.specs.StationNumbers.{newest_version}
use Rattle.x12_station_records.proofs.station_records.SqliteRecords.into_connection.Goals as goal

pub returns-clause-left : goal.returns-clause-left
returns-clause-left g c valid ready = record {
  ready = ready;
  outside = valid.outside;
  holds = (
    (record { version = newest_version; next = c.args.self.next; holds = valid.holds ready.is_open; sound = valid.sound ready.is_open; marked = valid.marked ready.is_open }, omega arith, omega arith),
    (refl, refl),
  );
}
