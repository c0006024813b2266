use Rattle.std.proofs.lemmas.Result.{IfOk-weaker, IfOk-at_ok}
use Rattle.x12_records.proofs.migrating.migrated_in.Goals as goal

pub migrated_over-requires-clause-live : goal.migrated_over-requires-clause-live
migrated_over-requires-clause-live g c = IfOk-at_ok _ c.in-Ok.is c.requires.live

pub migrated_over-requires-clause-left : goal.migrated_over-requires-clause-left
migrated_over-requires-clause-left g c = IfOk-at_ok _ c.in-Ok.is c.requires.left

pub returns-in-Ok : goal.returns-in-Ok
returns-in-Ok g c = record {
  opened = IfOk-weaker c.migrated_over.result _ _ (λ station told answers. (_, c.in-Ok.is, (told answers).0, (told answers).1)) c.migrated_over.ensures.opened;
}
