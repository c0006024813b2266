use Rattle.std.proofs.Common.{◌≡◌, ℕ, Ok, map, flat_map, take}
use Rattle.std.specs.List.{enumerate_from}
use Rattle.sqlite.specs.Held.{state}
use Rattle.sqlite.specs.declared.error.Error.{Error}
use Rattle.x12_outbound.specs.Entry.{group_row}
use Rattle.x12_station.specs.Stored.{rows_of_group}
use Rattle.x12_station_records.specs.StationPart.{PartGoesOn, AddsSets}
use Rattle.x12_station_records.proofs.station_outset.add_groups.Given as goal

-- the transaction sets of the groups so far are added
abbrev pub invariant-loop-i : goal.invariant-loop-i
invariant-loop-i g l = (l.tx.conn.ghost_name ≡ l.fn.tx.conn.ghost_name)
    × PartGoesOn {A = ℕ} {E = Error} (λ to. AddsSets l.at (flat_map (rows_of_group l.entry.icn) (enumerate_from 1 (take l.i (map group_row l.group-items)))) to)
    (Ok l.next) (state g.S.Store l.fn.tx.conn.now) (state g.S.Store l.tx.conn.now)
