use Rattle.x12_links.proofs.WorkerLemmas.{serves_still}
use Rattle.x12_links.proofs.worker.make_turns.Goals as goal

-- nothing is cut off so far
pub returns-then-is_settled : goal.returns-then-is_settled
returns-then-is_settled g c = serves_still g.D.Recipient.answered _ _ _ c.loop-turn.invariant.0 c.loop-turn.invariant.1

pub returns : goal.returns
returns g c = serves_still g.D.Recipient.answered _ _ _ c.loop-turn.invariant.0 c.loop-turn.invariant.1
