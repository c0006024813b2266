use Rattle.x12_links.proofs.RelayLemmas.{gets}
use Rattle.x12_links.proofs.inbox.take.Goals as goal

pub try_recv_as-requires-clause-rule : goal.try_recv_as-requires-clause-rule
try_recv_as-requires-clause-rule g c = (gets _ _ c.requires.takes, λ items views h at. tt)
