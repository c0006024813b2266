use Rattle.x12_outbound.proofs.LedgerLemmas.{icns_rise_of}
use Rattle.x12_outbound.proofs.ledger.Ledger.entry.Goals as goal

pub entry_of-requires : goal.entry_of-requires
entry_of-requires c = icns_rise_of _ _ _ c.deref.ensures.value c.self.invariant
