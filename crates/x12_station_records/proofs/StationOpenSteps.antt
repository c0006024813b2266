-- Where loading the open submissions begins.
use Rattle.std.proofs.Common.{◌≡◌, []}
use Rattle.x12_numbers.specs.Book.{Numbers}
use Rattle.x12_station_records.proofs.StationOpenLemmas.{none_open, none_below}
use Rattle.x12_station_records.specs.StationOpen.{IsOpened}
use Rattle.x12_station_records.specs.declared.station_loading.Opened.{Opened}

pub fresh : (book : Numbers) (o : Opened) → o.entries.items ≡ [] → o.icn ≡ 0 → o.gcn ≡ 0 → IsOpened book o
fresh book o none icn gcn = record {
  are_open = rw none (none_open book);
  below = rw (none, icn, gcn) none_below;
}
