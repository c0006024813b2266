use Rattle.std.proofs.lemmas.Result.{IfOk-weaker, IfOk-at_ok}
use Rattle.x12_records.proofs.migrating.migrate_station_over.Goals as goal

pub migrated_in-requires-clause-live : goal.migrated_in-requires-clause-live
migrated_in-requires-clause-live g c = IfOk-weaker c.open_files-found.result _ _ (λ conn told clean. (told clean).0) c.open_files-found.ensures.opened

pub migrated_in-requires-clause-left : goal.migrated_in-requires-clause-left
migrated_in-requires-clause-left g c = IfOk-weaker c.open_files-found.result _ _ (λ conn finds clean. let found = finds clean in c.requires.left found.honest _ (record { holds = found.holds; reads = found.reads })) c.open_files-found.ensures.found

pub returns : goal.returns
returns g c = record {
  opened = IfOk-weaker c.migrated_in.result _ _ (λ station told answers.
      let it = told answers in
      let found = IfOk-at_ok _ it.1 c.open_files-found.ensures.found it.2 in
      (_, record { holds = found.holds; reads = found.reads }, it.3)) c.migrated_in.ensures.opened;
}
