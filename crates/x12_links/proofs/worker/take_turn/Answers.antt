use Rattle.x12_links.proofs.WorkerLemmas.{serving_same}
use Rattle.x12_links.proofs.worker.take_turn.Goals as goal

pub returns-clause-served : goal.returns-clause-served
returns-clause-served g c = serving_same g.D.Recipient.answered _ _ _ _ c.work.ensures c.in_ok-came.ensures.served
