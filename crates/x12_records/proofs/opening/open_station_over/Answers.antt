use Rattle.std.proofs.lemmas.Result.{IfOk-weaker, IfOk-at_ok}
use Rattle.x12_records.proofs.opening.open_station_over.Goals as goal

pub station_in-requires-clause-live : goal.station_in-requires-clause-live
station_in-requires-clause-live g c = IfOk-weaker c.open_files-found.result _ _ (λ conn told clean. (told clean).0) c.open_files-found.ensures.opened

pub station_in-requires-clause-left : goal.station_in-requires-clause-left
station_in-requires-clause-left g c = IfOk-weaker c.open_files-found.result _ _ (λ conn finds clean. let found = finds clean in c.requires.left found.honest _ (record { holds = found.holds; reads = found.reads })) c.open_files-found.ensures.found

pub returns : goal.returns
returns g c = record {
  opened = IfOk-weaker c.station_in.result _ _ (λ station told answers.
      let it = told answers in
      let found = IfOk-at_ok _ it.1 c.open_files-found.ensures.found it.2 in
      (_, record { holds = found.holds; reads = found.reads }, it.3)) c.station_in.ensures.opened;
}
