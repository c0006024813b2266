-- The rows of the table are the tests of the step.
use Rattle.x12_hub.proofs.TableLemmas.{refuses_by_table}
use Rattle.x12_hub.proofs.laws.a_hub_refuses_by_its_table.Goals as goal

pub returns : goal.returns
returns c = record { law = refuses_by_table }
