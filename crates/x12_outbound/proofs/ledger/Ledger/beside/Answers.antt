use Rattle.std.proofs.Common.{ap}
use Rattle.x12_outbound.specs.Hubs.{hubs_of}
use Rattle.x12_outbound.specs.Ledger.{LedgerInMemory}
use Rattle.x12_outbound.proofs.PlannedLemmas.{none_beside}
use Rattle.x12_outbound.proofs.ledger.Ledger.beside.Goals as goal

-- an empty ledger has no set, and no number
pub returns-clause-closed : goal.returns-clause-closed
returns-clause-closed c = none_beside c.args.self.now.holds c.new.result.holds c.self.inside.me (hubs_of c.self.inside.hubs) c.new.ensures (ap (λ (v : LedgerInMemory). v.holds.me) c.self.view_is)
