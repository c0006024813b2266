use Rattle.std.proofs.Common.{◌∙◌}
use Rattle.x12_station_records.proofs.StationSentTaken.{counted_one}
use Rattle.x12_station_records.proofs.TakesLemmas.{rows_failed}
use Rattle.x12_station_records.proofs.station_groups.rows_behind.Goals as goal

pub returns-in_err-next-clause-taken : goal.returns-in_err-next-clause-taken
returns-in_err-next-clause-taken c =
    rows_failed _ _ _ c.in_err-next.field-0.0 _ c.from_residual-in_err-next.result c.from_residual-in_err-next.ensures.1 (λ f is memory. is ∙ memory) c.in_err-next.ensures.taken
    (counted_one c.args.book c.args.icn c.args.least c.in_ok-count.count c.args.rows.now c.in-Some.own.now c.in-Some.ensures.cases.1 c.in_ok-count.ensures.own c.in_ok-count.ensures.other)
