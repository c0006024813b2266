-- the agreements that are left decide
use Rattle.std.proofs.Common.{◌≡◌, drop, map}
use Rattle.std.specs.List.{list_any}
use Rattle.x12_judge.specs.Agreement.{TradingAgreement, agreement_view, is_same_party}
use Rattle.x12_station_records.proofs.station_agreements.has_agreement.Given as goal

abbrev pub invariant-loop-agreement : goal.invariant-loop-agreement
invariant-loop-agreement l =
    let with = λ (a : TradingAgreement). is_same_party a.partner l.partner in
    list_any with (map agreement_view l.agreements) ≡ list_any with (map agreement_view (drop l.agreement-index l.agreements))
