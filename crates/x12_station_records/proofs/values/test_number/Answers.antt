use Rattle.std.proofs.Common.{◌∙◌, ap}
use Rattle.sqlite.specs.Order.{column}
use Rattle.sql_rows.specs.Keyed.{number_in}
use Rattle.x12_tables.specs.Fault.{table_fault_of}
use Rattle.x12_station_records.proofs.TakesLemmas.{rows_failed}
use Rattle.x12_station_records.proofs.values.test_number.Goals as goal

pub returns-in_err-_number-clause-taken : goal.returns-in_err-_number-clause-taken
returns-in_err-_number-clause-taken c =
    rows_failed _ _ _ c.in_err-_number.field-0.0 _ c.from_residual.result c.from_residual.ensures.1 (λ f is memory. is ∙ ap table_fault_of memory) c.in_err-_number.ensures.taken
    (λ h. (number_in (column c.args.row.now c.args.at), h.0, h.1))
