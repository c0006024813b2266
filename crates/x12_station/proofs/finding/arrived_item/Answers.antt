-- The arrival that is found is that of the history.
use Rattle.std.proofs.Common.{sym}
use Rattle.x12_station.proofs.FindingLemmas.{arrived_found, none_arrived}
use Rattle.x12_station.proofs.finding.arrived_item.Goals as goal

pub returns-in_ok-copy_filed-in-Some-get_index : goal.returns-in_ok-copy_filed-in-Some-get_index
returns-in_ok-copy_filed-in-Some-get_index c = λ marks.
    arrived_found marks c.args.arrivals.now.entries c.args.seq c.in-Some.index c.in-Some.ensures.found _ c.in_ok-copy_filed-in-Some-get_index.field-0
    (sym c.in-Some-get_index.ensures.entry) c.in_ok-copy_filed-in-Some-get_index.ensures

pub returns-in-None : goal.returns-in-None
returns-in-None c = λ marks. none_arrived marks c.args.arrivals.now.entries c.args.seq c.in-Some.index c.in-Some.ensures.found (sym c.in-None.ensures.entry)
