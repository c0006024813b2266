use Rattle.x12_envelopes.proofs.FoundTreeLemmas.{trees_alone}
use Rattle.x12_envelopes.proofs.grammar.trees_alone_are_read.Goals as goal

pub returns : goal.returns
returns c = trees_alone
