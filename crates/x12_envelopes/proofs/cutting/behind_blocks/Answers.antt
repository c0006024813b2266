use Rattle.x12_envelopes.proofs.LineEndLemmas.{behind_one_more}
use Rattle.x12_envelopes.proofs.cutting.behind_blocks.Goals as goal

pub loop-block-preserved : goal.loop-block-preserved
loop-block-preserved c = behind_one_more 64 _ _ _ _ c.loop-block.invariant c.in-Some.ensures.cases.1 c.in-Some.ensures.cases.2 c.if-not-are_line_ends.ensures
