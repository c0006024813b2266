use Rattle.std.proofs.Common.{IsTrue}
use Rattle.sqlite.proofs.StateLemmas.{clean_if_open}
use Rattle.sqlite.specs.Held.{state}
use Rattle.sqlite.specs.State.{HasCleanDisk}
use Rattle.x12_hub_records.proofs.NewLemmas.{valid_new, holds_nothing}
use Rattle.x12_hub_records.proofs.records.SqliteHubRecords.create.Goals as goal

pub returns-in-Ok-clause-valid : goal.returns-in-Ok-clause-valid
returns-in-Ok-clause-valid g c =
    let old = state g.S.Store c.args.conn in
    let new = state g.S.Store c.create.new.conn in
    let law : IsTrue new.is_open → HasCleanDisk new = clean_if_open (g.S.Store.view c.create.new.conn.store) (g.met.S.Store.shut_if_dirty c.create.new.conn.store) in
    valid_new c.in-Ok.field-0 c.args.party old new (c.in-Ok.ensures.empty (λ e. absurd cc)) c.in-Ok.ensures.whole law c.in-Ok.ensures.mode

pub returns-in-Ok-clause-nothing : goal.returns-in-Ok-clause-nothing
returns-in-Ok-clause-nothing g c =
    let old = state g.S.Store c.args.conn in
    let new = state g.S.Store c.create.new.conn in
    let law : IsTrue new.is_open → HasCleanDisk new = clean_if_open (g.S.Store.view c.create.new.conn.store) (g.met.S.Store.shut_if_dirty c.create.new.conn.store) in
    holds_nothing c.in-Ok.field-0 c.args.party old new (c.in-Ok.ensures.empty (λ e. absurd cc)) c.in-Ok.ensures.whole law
