use Rattle.std.proofs.Common.{rules}
use Rattle.x12_links.proofs.RelayLemmas.{merges, totals}
use Rattle.x12_links.proofs.inbox.compare.Goals as goal

pub absorb-requires-clause-rule : goal.absorb-requires-clause-rule
absorb-requires-clause-rule g c = merges _ _ _ _ c.requires.puts.1 c.requires.takes.1

pub learn_as-requires-clause-rule : goal.learn_as-requires-clause-rule
learn_as-requires-clause-rule g c = totals _ _ (search rules) (search rules)
