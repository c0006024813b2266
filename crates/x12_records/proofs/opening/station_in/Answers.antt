use Rattle.std.proofs.lemmas.Result.{IfOk-weaker, IfOk-at_ok}
use Rattle.x12_records.proofs.opening.station_in.Goals as goal

pub station_over-requires-clause-live : goal.station_over-requires-clause-live
station_over-requires-clause-live g c = IfOk-at_ok _ c.in-Ok.is c.requires.live

pub station_over-requires-clause-left : goal.station_over-requires-clause-left
station_over-requires-clause-left g c = IfOk-at_ok _ c.in-Ok.is c.requires.left

pub returns-in-Ok : goal.returns-in-Ok
returns-in-Ok g c = record {
  opened = IfOk-weaker c.station_over.result _ _ (λ station told answers. (_, c.in-Ok.is, (told answers).0, (told answers).1)) c.station_over.ensures.opened;
}
