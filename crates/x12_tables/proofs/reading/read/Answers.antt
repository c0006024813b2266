use Rattle.std.proofs.Common.{IsTrue}
use Rattle.sqlite.proofs.StateLemmas.{clean_if_open}
use Rattle.sqlite.specs.Held.{state}
use Rattle.sqlite.specs.State.{HasCleanDisk}
use Rattle.sqlite_trees.proofs.Doubt.{no_doubt}
use Rattle.x12_tables.proofs.FindsLemmas.{shown_unchanged, where_shown}
use Rattle.x12_tables.proofs.ReadLemmas.{only_reads}
use Rattle.x12_tables.proofs.reading.read.Goals as goal

pub returns-clause-reads : goal.returns-clause-reads
returns-clause-reads g c =
    let new = state g.S.Store c.ask.new.conn in
    let law : IsTrue new.is_open → HasCleanDisk new = clean_if_open (g.S.Store.view c.ask.new.conn.store) (g.met.S.Store.shut_if_dirty c.ask.new.conn.store) in
    only_reads (state g.S.Store c.args.conn.now) new c.ask.ensures.stays c.ask.ensures.mode c.ask.ensures.survives law

pub returns-clause-answered : goal.returns-clause-answered
returns-clause-answered g c clean =
    let old = state g.S.Store c.args.conn.now in
    let new = state g.S.Store c.ask.new.conn in
    where_shown c.ask.result _ _ (λ rows shown. (shown_unchanged c.args.sql.now _ old new rows.items c.requires shown).0.is_open) (c.ask.ensures.shown (no_doubt new.is_clean clean))

pub returns-clause-shown : goal.returns-clause-shown
returns-clause-shown g c is_open =
    let new = state g.S.Store c.ask.new.conn in
    let law : IsTrue new.is_open → HasCleanDisk new = clean_if_open (g.S.Store.view c.ask.new.conn.store) (g.met.S.Store.shut_if_dirty c.ask.new.conn.store) in
    c.ask.ensures.shown (law is_open)
