use Rattle.sqlite.specs.declared.error.Error.{Error}
use Rattle.sqlite.specs.Held.{state}
use Rattle.x12_judge.specs.Agreement.{agreement_view}
use Rattle.x12_tables.specs.Change.{Always}
use Rattle.x12_station_records.proofs.StationOnceLemmas.{agrees_all}
use Rattle.x12_station_records.proofs.StationParts.{goes, goes_then}
use Rattle.x12_station_records.specs.StationChange.{Turns, withdrawn}
use Rattle.x12_station_records.specs.StationPart.{AddsPairs, AgreesAll}
use Rattle.x12_station_records.proofs.station_agreements.agree.Goals as goal

pub returns-clause-part : goal.returns-clause-part
returns-clause-part g c =
    let mine = agreement_view c.args.agreement.now in
    let pairs = c.args.agreement.now.pairs.items in
    let from = c.args.at in
    let a = state g.S.Store c.args.tx.now.conn.now in
    let b = state g.S.Store c.withdraw.new.tx.conn.now in
    let d = state g.S.Store c.add_pairs.new.tx.conn.now in
    let C = Turns (withdrawn mine.partner) Always in
    let added = rw (c.deref.ensures.value) at c.add_pairs.ensures.part in
    goes_then {F = Error} (λ u. C) c.in_ok-withdraw.field-0 a b d (λ to. AddsPairs mine from pairs to) (λ to. AgreesAll mine from to) c.add_pairs.result
    (λ to first second. agrees_all a b d mine pairs from to c.in_ok-withdraw.ensures.wide first second) (goes C c.in_ok-withdraw.field-0 a b c.in_ok-withdraw.ensures.part) added
