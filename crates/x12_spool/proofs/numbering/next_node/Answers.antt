use Rattle.x12_spool.proofs.NumberingLemmas.{goes_on}
use Rattle.x12_spool.proofs.numbering.next_node.Goals as goal

pub loop-node-preserved : goal.loop-node-preserved
loop-node-preserved c =
    goes_on c.args.given.now c.loop-node.node-index 0 c.loop-node-test.true _ _ c.loop-node.invariant c.greater-greatest.ensures.first c.greater-greatest.ensures.second
