use Rattle.x12_outbound.proofs.LedgerLemmas.{in_order_sent}
use Rattle.x12_outbound.proofs.ledger.Ledger.sent.Goals as goal

pub invariant_of-self : goal.invariant_of-self
invariant_of-self c =
    in_order_sent _ c.self.inside.rows _ _ c.deref_mut.ensures.value c.send_due.auto.rows c.self.invariant _ c.send_due.ensures
