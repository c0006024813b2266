use Rattle.std.proofs.Common.{arith}
use Rattle.x12_station_records.proofs.StationAgreedTaken.{one_end}
use Rattle.x12_station_records.proofs.station_agreements.next_pair.Goals as goal

pub returns-in-None-clause-taken : goal.returns-in-None-clause-taken
returns-in-None-clause-taken c h = absurd (omega (arith, one_end 0 c.in_ok-last.last h.0 c.args.rows.now c.in_ok-last.ensures.are h.1, h.2, c.in-None.ensures))
