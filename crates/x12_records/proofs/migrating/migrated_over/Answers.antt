use Rattle.std.proofs.Common.{◌∙◌, ◌∷◌, ap, arith, IsTrue}
use Rattle.std.specs.Prelude.{option_to_list}
use Rattle.sqlite.proofs.StateLemmas.{clean_if_open}
use Rattle.sqlite.specs.Effect.{Database}
use Rattle.sqlite.specs.Held.{state}
use Rattle.sqlite.specs.State.{HasCleanDisk}
use Rattle.x12_station.specs.Opened.{opened}
use Rattle.x12_station.specs.Stored.{Stored}
use Rattle.x12_station_records.specs.StationContent.{content_of}
use Rattle.x12_records.proofs.LeftLemmas.{migrated_history}
use Rattle.x12_records.proofs.migrating.migrated_over.Goals as goal

pub open-requires-clause-written : goal.open-requires-clause-written
open-requires-clause-written g c is_open =
    let old = state g.S.Store c.args.conn in
    let new = state g.S.Store c.in-Ok.records.conn in
    let law : IsTrue new.is_open → HasCleanDisk new = clean_if_open (g.S.Store.view c.in-Ok.records.conn.store) (g.met.S.Store.shut_if_dirty c.in-Ok.records.conn.store) in
    let clean = law is_open in
    let was_clean : HasCleanDisk old = omega (arith, c.in-Ok.ensures.crash.clean, clean) in
    migrated_history c.args.me (c.args.hub ∷ option_to_list c.args.other) c.in-Ok.was c.in-Ok.records.next old new (c.requires.live was_clean) (c.requires.left was_clean) c.in-Ok.ensures.valid.0 (c.in-Ok.ensures.migrated clean)

pub returns-in-Ok-open : goal.returns-in-Ok-open
returns-in-Ok-open g c = record {
  opened = λ answers.
      let new = state g.S.Store c.in-Ok.records.conn in
      let law : IsTrue new.is_open → HasCleanDisk new = clean_if_open (g.S.Store.view c.in-Ok.records.conn.store) (g.met.S.Store.shut_if_dirty c.in-Ok.records.conn.store) in
      let told = c.in-Ok-open.ensures.opened answers in
      let clean = law told.0 in
      let old : HasCleanDisk (state g.S.Store c.args.conn) = omega (arith, c.in-Ok.ensures.crash.clean, clean) in
      (old, told.1 ∙ ap (opened c.args.me (c.args.hub ∷ option_to_list c.args.other)) ((c.in-Ok.ensures.migrated clean).content ∙ ap (λ (d : Database). content_of d.trees) (c.requires.live old).clean));
}
