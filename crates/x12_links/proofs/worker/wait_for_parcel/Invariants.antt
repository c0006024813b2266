use Rattle.x12_links.specs.Worker.{AreSameInboxes, IsServing}
use Rattle.x12_links.proofs.worker.wait_for_parcel.Given as goal

abbrev pub invariant-loop : goal.invariant-loop
invariant-loop g l = IsServing g.D.Recipient.answered 0 (g.D.Recipient.delivered l.recipient) l.inlets.items × AreSameInboxes l.fn.inlets.items l.inlets.items
