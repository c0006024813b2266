use Rattle.std.proofs.Common.{◌∙◌, ap, arith}
use Rattle.sqlite_sql.specs.Ops.{is_null}
use Rattle.x12_tables.proofs.StoredLemmas.{reaches}
use Rattle.x12_station_records.proofs.TakesLemmas.{rows_failed}
use Rattle.x12_station_records.specs.StationTaken.{TellsOwner}
use Rattle.x12_station_records.proofs.station_numbers.owner_in_row.Goals as goal

pub returns-in_err-other-clause-taken : goal.returns-in_err-other-clause-taken
returns-in_err-other-clause-taken c =
    rows_failed (TellsOwner c.args.row.now) (TellsOwner c.args.row.now) _ c.in_err-other.field-0.0 _ c.from_residual-in_err-other.result c.from_residual-in_err-other.ensures.1 (λ f is memory. is ∙ memory)
    (λ h. c.in_err-other.ensures.taken (let long = reaches c.args.row.now 9 (ap is_null h.noted.1) in omega (arith, long)) h.other) (λ h. h)
