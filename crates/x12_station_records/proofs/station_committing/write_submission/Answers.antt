use Rattle.sqlite.specs.Held.{state}
use Rattle.x12_outbound.specs.Entry.{entry_row}
use Rattle.x12_station.specs.Plan.{Submits}
use Rattle.x12_station_records.proofs.StationParts.{tells}
use Rattle.x12_station_records.proofs.StationPlanLemmas.{makes_submission}
use Rattle.x12_station_records.specs.StationPart.{SubmitsAll}
use Rattle.x12_station_records.specs.StationPlan.{Makes}
use Rattle.x12_station_records.proofs.station_committing.write_submission.Goals as goal

pub returns-clause-part : goal.returns-clause-part
returns-clause-part g c =
    let from = c.args.next in
    let to = c.in_ok-set.set in
    let a = state g.S.Store c.args.tx.now.conn.now in
    let b = state g.S.Store c.submit.new.tx.conn.now in
    let seq = c.args.seq in
    let e = entry_row c.args.entry.now in
    tells (λ to. SubmitsAll seq e from.set to) to (λ to. Makes seq (Submits e) from to) (record from { set = to }) a b (makes_submission a b seq from to e) c.in_ok-set.ensures.part
