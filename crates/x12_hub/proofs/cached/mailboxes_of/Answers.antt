-- What is put next is the first of what is left.
use lib.ListN.{get_or}
use Rattle.std.proofs.Math.Seq.{drop-cons}
use Rattle.x12_hub.proofs.MailboxLemmas.{put_next}
use Rattle.x12_hub.proofs.cached.mailboxes_of.Goals as goal

pub loop-node-preserved : goal.loop-node-preserved
loop-node-preserved c =
    put_next c.loop-node.mailboxes c.insert.new.self c.args.waiting.now c.loop-node.node-index (get_or c.args.waiting.now c.loop-node.node-index (0, 0))
    (drop-cons c.args.waiting.now c.loop-node.node-index (0, 0) c.loop-node-test.true)
    c.loop-node.invariant c.in_ok-insert.ensures.updates.0
