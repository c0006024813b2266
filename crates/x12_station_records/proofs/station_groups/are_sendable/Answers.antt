use Rattle.std.proofs.Common.{◌∙◌, sym, arith, map}
use Rattle.std.proofs.lemmas.Bool.Decides.{nat_tests}
use Rattle.std.proofs.lemmas.List.{length-map}
use Rattle.x12_outbound.specs.Entry.{group_row}
use Rattle.x12_station_records.proofs.StationGroupLemmas.{are_sendable}
use Rattle.x12_station_records.proofs.StationGroupsTaken.{pairs_rising}
use Rattle.x12_station_records.proofs.station_groups.are_sendable.Goals as goal

pub returns-clause-is : goal.returns-clause-is
returns-clause-is c rise =
    let gs = c.args.groups.now in
    are_sendable (map group_row gs) (grind (arith, nat_tests, c.is_empty.ensures, c.if-is_empty.false, length-map gs group_row)) (omega (arith, c.if-groups-gt32.false, length-map gs group_row)) (omega (arith, c.if-set_count-gt400.false, c.set_count.ensures)) (sym c.do_rise.ensures ∙ rise)

pub returns-clause-met : goal.returns-clause-met
returns-clause-met c can = c.do_rise.ensures ∙ pairs_rising (map group_row c.args.groups.now) can.groups_rise
