use Rattle.std.proofs.lemmas.Result.{IfOk-weaker, IfOk-at_ok}
use Rattle.x12_records.proofs.opening.open_hub.Goals as goal

pub hub_in-requires-clause-live : goal.hub_in-requires-clause-live
hub_in-requires-clause-live g c = IfOk-weaker c.open_from-found.result _ _ (λ conn told clean. (told clean).0) c.open_from-found.ensures.opened

pub returns : goal.returns
returns g c = record {
  opened = IfOk-weaker c.hub_in.result _ _ (λ hub told answers.
      let it = told answers in
      let found = IfOk-at_ok _ it.1 c.open_from-found.ensures.found it.2 in
      (_, record { holds = found.holds; reads = found.reads }, it.3)) c.hub_in.ensures.opened;
}
