use Rattle.x12_outbound.proofs.LedgerLemmas.{in_order_empty}
use Rattle.x12_outbound.proofs.ledger.Ledger.new.Goals as goal

pub invariant_of-result : goal.invariant_of-result
invariant_of-result c = in_order_empty _ _ c.new.ensures.items
