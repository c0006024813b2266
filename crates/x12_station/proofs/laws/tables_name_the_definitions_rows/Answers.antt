use Rattle.x12_station.proofs.ArrivalTableLemmas.{arrival_table, orders_table}
use Rattle.x12_station.proofs.TableLemmas.{prepared_table}
use Rattle.x12_station.proofs.laws.tables_name_the_definitions_rows.Goals as goal

pub returns : goal.returns
returns c = record {
  prepared = prepared_table;
  orders = orders_table c.orders_are_submitted.ensures.law;
  arrivals = arrival_table;
}
