use Rattle.sqlite.specs.Held.{state}
use Rattle.x12_judge.specs.Agreement.{agreement_view}
use Rattle.x12_station.specs.Plan.{Agrees}
use Rattle.x12_station_records.proofs.StationParts.{tells}
use Rattle.x12_station_records.proofs.StationPlanLemmas.{makes_agreement}
use Rattle.x12_station_records.specs.StationPart.{AgreesAll}
use Rattle.x12_station_records.specs.StationPlan.{Makes}
use Rattle.x12_station_records.proofs.station_committing.write_agreement.Goals as goal

pub returns-clause-part : goal.returns-clause-part
returns-clause-part g c seq =
    let from = c.args.next in
    let to = c.in_ok-agreement.agreement in
    let a = state g.S.Store c.args.tx.now.conn.now in
    let b = state g.S.Store c.agree.new.tx.conn.now in
    let x = agreement_view c.args.agreement.now in
    tells (λ to. AgreesAll x from.agreement to) to (λ to. Makes seq (Agrees x) from to) (record from { agreement = to }) a b (makes_agreement a b seq from to x) c.in_ok-agreement.ensures.part
