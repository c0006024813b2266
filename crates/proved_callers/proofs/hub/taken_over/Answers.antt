use Rattle.std.proofs.Common.{◌∙◌, ap, IsTrue}
use Rattle.sqlite.proofs.StateLemmas.{clean_if_open}
use Rattle.sqlite.specs.Effect.{Database}
use Rattle.sqlite.specs.Held.{state}
use Rattle.sqlite.specs.State.{HasCleanDisk}
use Rattle.x12_hub_records.specs.HubContent.{hub_content_of}
use Rattle.proved_callers.proofs.hub.taken_over.Goals as goal

pub open-requires-clause-written : goal.open-requires-clause-written
open-requires-clause-written g c is_open =
    let new = state g.S.Store c.in-Ok.records.conn in
    let law : IsTrue new.is_open → HasCleanDisk new = clean_if_open (g.S.Store.view c.in-Ok.records.conn.store) (g.met.S.Store.shut_if_dirty c.in-Ok.records.conn.store) in
    let found = c.in-Ok.ensures.found (law is_open) in
    ap (λ (d : Database). (hub_content_of d.trees).party) found.same ∙ found.own
