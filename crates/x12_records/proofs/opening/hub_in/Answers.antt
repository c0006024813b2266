use Rattle.std.proofs.lemmas.Result.{IfOk-weaker, IfOk-at_ok}
use Rattle.x12_records.proofs.opening.hub_in.Goals as goal

pub hub_over-requires-clause-live : goal.hub_over-requires-clause-live
hub_over-requires-clause-live g c = IfOk-at_ok _ c.in-Ok.is c.requires.live

pub returns-in-Ok : goal.returns-in-Ok
returns-in-Ok g c = record {
  opened = IfOk-weaker c.hub_over.result _ _ (λ hub told answers. (_, c.in-Ok.is, (told answers).0, (told answers).1)) c.hub_over.ensures.opened;
}
