use Rattle.std.proofs.Common.{ap, map, subst, sym, arith}
use Rattle.std.proofs.lemmas.Grind.{common_steps}
use Rattle.x12_judge.specs.Agreement.{agreement_view}
use Rattle.x12_station_records.proofs.StationAgreedLemmas.{kept_none}
use Rattle.x12_station_records.proofs.StationAgreedTaken.{one_more_kept}
use Rattle.x12_station_records.proofs.TakesLemmas.{rows_failed, holds_next}
use Rattle.x12_station_records.specs.StationAgreed.{AreKept, pair_shown}
use Rattle.x12_station_records.specs.StationTaken.{HasPair}
use Rattle.std.proofs.Common.{◌∙◌, take}
use Rattle.x12_station_records.proofs.station_agreements.agreements_in_rows.Goals as goal

pub loop-row-init : goal.loop-row-init
loop-row-init c = let none = c.new-agreements.ensures.items in (ap (map agreement_view) none, subst (λ xs. AreKept (map agreement_view xs)) (sym none) kept_none, λ pairs. pairs)

pub returns-in_err-put_pair-clause-taken : goal.returns-in_err-put_pair-clause-taken
returns-in_err-put_pair-clause-taken c =
    let rows = c.args.rows.now in
    let i = c.loop-row.row-index in
    rows_failed _ _ _ c.in_err-put_pair.field-0.0 _ c.from_residual-in_err-put_pair.result c.from_residual-in_err-put_pair.ensures.1 (λ f is memory. is ∙ memory) c.in_err-put_pair.ensures.taken
    (λ h. (map pair_shown (take i rows), c.loop-row.invariant.0, one_more_kept rows i _ c.row-item.result c.in_ok-partner.partner c.in_ok-lenient.lenient c.in_ok-pair.pair c.loop-row-test.true (sym c.row-item.is) c.in_ok-partner.ensures.party c.in_ok-pair.ensures.functional c.in_ok-pair.ensures.set c.in_ok-lenient.ensures.is h.kept))

pub returns-in_err-partner-clause-taken : goal.returns-in_err-partner-clause-taken
returns-in_err-partner-clause-taken c =
    rows_failed _ _ _ c.in_err-partner.field-0.0 _ c.from_residual.result c.from_residual.ensures.1 (λ f is memory. is ∙ memory) c.in_err-partner.ensures.taken
    (λ h. (holds_next HasPair c.args.rows.now c.loop-row.row-index _ c.row-item.result c.loop-row-test.true (sym c.row-item.is) (c.loop-row.invariant.2 h.pairs)).partner)

pub returns-in_err-pair-clause-taken : goal.returns-in_err-pair-clause-taken
returns-in_err-pair-clause-taken c =
    rows_failed _ _ _ c.in_err-pair.field-0.0 _ c.from_residual-in_err-pair.result c.from_residual-in_err-pair.ensures.1 (λ f is memory. is ∙ memory) c.in_err-pair.ensures.taken
    (λ h. holds_next HasPair c.args.rows.now c.loop-row.row-index _ c.row-item.result c.loop-row-test.true (sym c.row-item.is) (c.loop-row.invariant.2 h.pairs))

pub returns-in_err-lenient-clause-taken : goal.returns-in_err-lenient-clause-taken
returns-in_err-lenient-clause-taken c =
    rows_failed _ _ _ c.in_err-lenient.field-0.0 _ c.from_residual-in_err-lenient.result c.from_residual-in_err-lenient.ensures.1 (λ f is memory. is ∙ memory) c.in_err-lenient.ensures.taken
    (λ h. (holds_next HasPair c.args.rows.now c.loop-row.row-index _ c.row-item.result c.loop-row-test.true (sym c.row-item.is) (c.loop-row.invariant.2 h.pairs)).lenient)

pub loop-row-preserved : goal.loop-row-preserved
loop-row-preserved c = grind (arith, common_steps)

pub returns-clause-agreements : goal.returns-clause-agreements
returns-clause-agreements c = grind (arith, common_steps)
