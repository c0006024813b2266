use Rattle.std.proofs.Common.{◌≡◌, [], drop, sym, subst, arith}
use Rattle.std.proofs.lemmas.Grind.{common_steps}
use Rattle.std.proofs.Math.ListN.{drop_of_length-le}
use Rattle.std.proofs.lemmas.List.{append-nil}
use Rattle.x12_station_records.proofs.TakesLemmas.{rows_failed, chains_next}
use Rattle.x12_station_records.specs.StationAdopt.{AreArrivals, IsArrivalRow}
use Rattle.std.proofs.Common.{◌∙◌}
use Rattle.x12_station_records.proofs.station_inbound.arrivals_in_rows.Goals as goal

pub returns-clause-are : goal.returns-clause-are
returns-clause-are c =
    let rows = c.args.rows.now in
    let seqs = c.loop-row.seqs.items in
    let none : drop c.loop-row.row-index rows ≡ [] = drop_of_length-le rows {i = c.loop-row.row-index} (omega (arith, c.loop-row-test.false)) in
    subst (λ v. AreArrivals 0 v rows) (append-nil seqs) (c.loop-row.invariant.0 [] (subst (AreArrivals c.loop-row.last []) (sym none) tt))

pub returns-in_err-last-clause-taken : goal.returns-in_err-last-clause-taken
returns-in_err-last-clause-taken c =
    rows_failed _ _ _ c.in_err-last.field-0.0 _ c.from_residual.result c.from_residual.ensures.1 (λ f is memory. is ∙ memory) c.in_err-last.ensures.taken
    (λ h. chains_next IsArrivalRow c.loop-row.last c.args.rows.now c.loop-row.row-index _ c.row-item.result c.loop-row-test.true (sym c.row-item.is) (c.loop-row.invariant.1 h))

pub loop-row-preserved : goal.loop-row-preserved
loop-row-preserved c = grind (arith, common_steps)
