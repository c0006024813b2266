use Rattle.std.proofs.Common.{◌≡◌, ◌∙◌, [], ◌∷◌, ◌++◌, false, ap, map, refl, sym, subst}
use Rattle.std.specs.List.{list_any}
use Rattle.x12_judge.specs.Agreement.{TradingAgreement, agreement_view, is_same_party}
use Rattle.x12_station_records.proofs.StationAgreedLemmas.{kept_started, started_view}
use Rattle.x12_station_records.proofs.StationAgreedTaken.{never_started}
use Rattle.std.proofs.Common.{true}
use Rattle.x12_station_records.proofs.station_agreements.start_agreement.Goals as goal

pub returns-clause-kept : goal.returns-clause-kept
returns-clause-kept c =
    let old = c.args.agreements.now.items in
    let new = c.push-2.new.self.items in
    let with = λ (a : TradingAgreement). is_same_party a.partner c.args.partner in
    let none = subst (λ xs. list_any with (map agreement_view xs) ≡ false) c.deref.ensures.value (sym c.has_agreement.ensures ∙ c.if-has_agreement.false) in
    let pairs = c.in_ok-push.ensures.items ∙ ap (λ xs. xs ++ c.args.pair ∷ []) c.new-pairs.ensures.items in
    kept_started (map agreement_view old) (map agreement_view new) c.args.partner c.args.lenient c.args.pair c.requires none
    (started_view old new (record { partner = c.args.partner; lenient = c.args.lenient; pairs = c.push.new.self }) c.args.partner c.args.lenient c.args.pair c.in_ok-push-2.ensures.items refl refl pairs)

pub returns-then-has_agreement-clause-taken : goal.returns-then-has_agreement-clause-taken
returns-then-has_agreement-clause-taken c kept =
    let with = λ (a : TradingAgreement). is_same_party a.partner c.args.partner in
    let some = subst (λ xs. list_any with (map agreement_view xs) ≡ true) c.deref.ensures.value (sym c.has_agreement.ensures ∙ c.if-has_agreement.true) in
    absurd (never_started c.args.partner c.args.lenient c.args.pair (map agreement_view c.args.agreements.now.items) some kept)
