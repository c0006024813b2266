use Rattle.x12_links.proofs.RelayLemmas.{sends}
use Rattle.x12_links.proofs.inbox.put.Goals as goal

pub try_send_as-requires-clause-rule : goal.try_send_as-requires-clause-rule
try_send_as-requires-clause-rule g c = (sends _ _ _ _ c.requires.puts, λ items views h at. tt)
