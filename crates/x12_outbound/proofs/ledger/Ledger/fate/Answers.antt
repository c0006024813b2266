use Rattle.x12_outbound.proofs.LedgerLemmas.{icns_rise_of}
use Rattle.x12_outbound.proofs.ledger.Ledger.fate.Goals as goal

pub set_of-requires : goal.set_of-requires
set_of-requires c = icns_rise_of _ _ _ c.deref.ensures.value c.self.invariant
