use Rattle.std.proofs.Common.{◌≡◌, Ok, map, take}
use Rattle.sqlite.specs.Held.{state}
use Rattle.sqlite.specs.declared.error.Error.{Error}
use Rattle.x12_outbound.specs.Settling.{target_view}
use Rattle.x12_station_records.specs.StationChange.{Turns, with_fates, SetsOnce}
use Rattle.x12_station_records.specs.StationPart.{PartGoesOn}
use Rattle.x12_station_records.proofs.station_outset.settle.Given as goal

-- the first ones have their fates
abbrev pub invariant-loop-key : goal.invariant-loop-key
invariant-loop-key g l = (l.tx.conn.ghost_name ≡ l.fn.tx.conn.ghost_name)
    × PartGoesOn {A = Unit {0}} {E = Error} (λ u. Turns (with_fates (take l.key-index (map target_view l.settled))) SetsOnce)
    (Ok tt) (state g.S.Store l.fn.tx.conn.now) (state g.S.Store l.tx.conn.now)
