use Rattle.x12_envelopes.proofs.SetNumberLemmas.{order_of_bytes, equal_by_bytes}
use Rattle.x12_envelopes.proofs.set_order.set_numbers_compare_as_bytes.Goals as goal

pub returns-clause-equal : goal.returns-clause-equal
returns-clause-equal c = equal_by_bytes

pub returns-clause-order : goal.returns-clause-order
returns-clause-order c = order_of_bytes
