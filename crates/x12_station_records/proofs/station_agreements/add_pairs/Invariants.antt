use Rattle.std.proofs.Common.{◌≡◌, ℕ, Ok, take}
use Rattle.sqlite.specs.Held.{state}
use Rattle.sqlite.specs.declared.error.Error.{Error}
use Rattle.x12_judge.specs.Agreement.{agreement_view}
use Rattle.x12_station_records.specs.StationPart.{PartGoesOn, AddsPairs}
use Rattle.x12_station_records.proofs.station_agreements.add_pairs.Given as goal

-- the first ones are added
abbrev pub invariant-loop-i : goal.invariant-loop-i
invariant-loop-i g l = (l.tx.conn.ghost_name ≡ l.fn.tx.conn.ghost_name)
    × PartGoesOn {A = ℕ} {E = Error} (λ to. AddsPairs (agreement_view l.agreement) l.at (take l.i l.pairs) to)
    (Ok l.next) (state g.S.Store l.fn.tx.conn.now) (state g.S.Store l.tx.conn.now)
