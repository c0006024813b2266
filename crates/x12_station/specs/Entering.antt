-- What memory and records hold of one station.
use Rattle.x12_station.specs.declared.cached.Cached.{Cached}
use Rattle.x12_station.specs.Durable.{IsHistoryOf}
use Rattle.x12_station.specs.Keeps.{Caches}
use Rattle.x12_station.specs.Stored.{Stored}

-- memory is what the records hold, and a station of this party and these hubs wrote them
abbrev pub IsHeld : Cached → Stored → Type 0
IsHeld m s = Caches m s × IsHistoryOf m.ledger.holds.me m.ledger.holds.hubs s
