use Rattle.std.proofs.Common.{◌≡◌, ℕ, Ok, map, take}
use Rattle.std.specs.List.{enumerate_from}
use Rattle.sqlite.specs.Held.{state}
use Rattle.sqlite.specs.declared.error.Error.{Error}
use Rattle.x12_outbound.specs.Entry.{group_row, set_row}
use Rattle.x12_station_records.specs.StationChange.{set_of}
use Rattle.x12_station_records.specs.StationPart.{PartGoesOn, AddsSets}
use Rattle.x12_station_records.proofs.station_outset.add_sets.Given as goal

-- the transaction sets so far are added
abbrev pub invariant-loop-i : goal.invariant-loop-i
invariant-loop-i g l = (l.tx.conn.ghost_name ≡ l.fn.tx.conn.ghost_name)
    × PartGoesOn {A = ℕ} {E = Error} (λ to. AddsSets l.at (map (set_of l.icn (l.place, group_row l.group)) (enumerate_from 1 (take l.i (map set_row l.set-items)))) to)
    (Ok l.next) (state g.S.Store l.fn.tx.conn.now) (state g.S.Store l.tx.conn.now)
