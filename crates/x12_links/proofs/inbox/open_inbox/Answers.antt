use Rattle.std.proofs.Common.{rules}
use Rattle.x12_links.proofs.RelayLemmas.{begins, forks}
use Rattle.x12_links.proofs.inbox.open_inbox.Goals as goal

pub bounded_with-requires-clause-rule : goal.bounded_with-requires-clause-rule
bounded_with-requires-clause-rule g c = begins

pub another-taker-requires-clause-rule : goal.another-taker-requires-clause-rule
another-taker-requires-clause-rule g c = forks _ _ (search rules) (search rules)
