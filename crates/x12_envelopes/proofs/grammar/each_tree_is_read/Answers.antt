use Rattle.x12_envelopes.proofs.TreeLemmas.{each_tree}
use Rattle.x12_envelopes.proofs.grammar.each_tree_is_read.Goals as goal

pub returns : goal.returns
returns c = each_tree
