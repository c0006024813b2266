use Rattle.x12_links.specs.Worker.{AreSameInboxes, IsServing}
use Rattle.x12_links.proofs.worker.make_turns.Given as goal

abbrev pub invariant-loop-turn : goal.invariant-loop-turn
invariant-loop-turn g l = IsServing g.D.Recipient.answered 0 (g.D.Recipient.delivered l.recipient) l.inlets.items × AreSameInboxes l.fn.inlets.items l.inlets.items
