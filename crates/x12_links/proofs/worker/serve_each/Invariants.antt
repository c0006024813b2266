use Rattle.x12_links.specs.Worker.{AreSameInboxes, IsServing}
use Rattle.x12_links.proofs.worker.serve_each.Given as goal

abbrev pub invariant-loop-inbox : goal.invariant-loop-inbox
invariant-loop-inbox g l = IsServing g.D.Recipient.answered 0 (g.D.Recipient.delivered l.recipient) l.inlets.items × AreSameInboxes l.fn.inlets.items l.inlets.items
