use Rattle.std.proofs.Common.{arith, IsTrue}
use Rattle.sqlite_trees.proofs.Doubt.{clean_of, no_doubt}
use Rattle.sqlite.proofs.StateLemmas.{clean_if_open}
use Rattle.sqlite.specs.Held.{state}
use Rattle.sqlite.specs.State.{HasCleanDisk}
use Rattle.x12_station_records.proofs.StationCommitLemmas.{still, content_done, content_kept, valid_done, valid_kept, crash_leaves}
use Rattle.x12_station_records.proofs.station_committing.commit.Goals as goal

pub returns-in-Ok-clause-valid : goal.returns-in-Ok-clause-valid
returns-in-Ok-clause-valid g c =
    let old = state g.S.Store c.args.conn.now in
    let new = state g.S.Store c.write.new.conn in
    let law : IsTrue new.is_open → HasCleanDisk new = clean_if_open (g.S.Store.view c.write.new.conn.store) (g.met.S.Store.shut_if_dirty c.write.new.conn.store) in
    valid_done c.args.next.now c.args.plan.now old new c.requires.valid c.requires.fits law c.in-Ok.to c.write.ensures.mode c.in-Ok.ensures.whole

pub returns-in-Ok-clause-never_won_back : goal.returns-in-Ok-clause-never_won_back
returns-in-Ok-clause-never_won_back g c =
    let old = state g.S.Store c.args.conn.now in
    let new = state g.S.Store c.write.new.conn in
    let law : IsTrue new.is_open → HasCleanDisk new = clean_if_open (g.S.Store.view c.write.new.conn.store) (g.met.S.Store.shut_if_dirty c.write.new.conn.store) in
    still c.args.next.now c.args.plan.now old new c.requires.valid c.requires.fits law c.write.result c.write.ensures.whole

pub returns-in-Ok-clause-written : goal.returns-in-Ok-clause-written
returns-in-Ok-clause-written g c =
    let old = state g.S.Store c.args.conn.now in
    let new = state g.S.Store c.write.new.conn in
    let law : IsTrue new.is_open → HasCleanDisk new = clean_if_open (g.S.Store.view c.write.new.conn.store) (g.met.S.Store.shut_if_dirty c.write.new.conn.store) in
    content_done c.args.next.now c.args.plan.now old new c.requires.valid c.requires.fits law c.in-Ok.to c.in-Ok.ensures.whole

pub returns-in-Ok-clause-crash : goal.returns-in-Ok-clause-crash
returns-in-Ok-clause-crash g c =
    let old = state g.S.Store c.args.conn.now in
    let new = state g.S.Store c.write.new.conn in
    let law : IsTrue new.is_open → HasCleanDisk new = clean_if_open (g.S.Store.view c.write.new.conn.store) (g.met.S.Store.shut_if_dirty c.write.new.conn.store) in
    record {
      was_clean = λ clean. clean_of old.is_clean (omega (arith, no_doubt new.is_clean clean, c.write.ensures.whole.crash.clean));
      answered = λ clean. (c.in-Ok.ensures.whole.done (no_doubt new.is_clean clean)).is_open;
      left = λ clean d left. crash_leaves c.args.next.now c.args.plan.now old new c.requires.valid c.requires.fits law c.write.result c.write.ensures.whole (no_doubt new.is_clean clean) d left;
    }

pub returns-in-Err-clause-valid : goal.returns-in-Err-clause-valid
returns-in-Err-clause-valid g c =
    let old = state g.S.Store c.args.conn.now in
    let new = state g.S.Store c.write.new.conn in
    let law : IsTrue new.is_open → HasCleanDisk new = clean_if_open (g.S.Store.view c.write.new.conn.store) (g.met.S.Store.shut_if_dirty c.write.new.conn.store) in
    valid_kept c.args.next.now c.args.plan.now old new c.requires.valid c.requires.fits law c.in-Err.error c.write.ensures.mode c.in-Err.ensures.whole

pub returns-in-Err-clause-never_won_back : goal.returns-in-Err-clause-never_won_back
returns-in-Err-clause-never_won_back g c =
    let old = state g.S.Store c.args.conn.now in
    let new = state g.S.Store c.write.new.conn in
    let law : IsTrue new.is_open → HasCleanDisk new = clean_if_open (g.S.Store.view c.write.new.conn.store) (g.met.S.Store.shut_if_dirty c.write.new.conn.store) in
    still c.args.next.now c.args.plan.now old new c.requires.valid c.requires.fits law c.write.result c.write.ensures.whole

pub returns-in-Err-clause-written : goal.returns-in-Err-clause-written
returns-in-Err-clause-written g c =
    let old = state g.S.Store c.args.conn.now in
    let new = state g.S.Store c.write.new.conn in
    let law : IsTrue new.is_open → HasCleanDisk new = clean_if_open (g.S.Store.view c.write.new.conn.store) (g.met.S.Store.shut_if_dirty c.write.new.conn.store) in
    content_kept c.args.next.now c.args.plan.now old new c.requires.valid c.requires.fits law c.in-Err.error c.in-Err.ensures.whole

pub returns-in-Err-clause-crash : goal.returns-in-Err-clause-crash
returns-in-Err-clause-crash g c =
    let old = state g.S.Store c.args.conn.now in
    let new = state g.S.Store c.write.new.conn in
    let law : IsTrue new.is_open → HasCleanDisk new = clean_if_open (g.S.Store.view c.write.new.conn.store) (g.met.S.Store.shut_if_dirty c.write.new.conn.store) in
    record {
      was_clean = λ clean. clean_of old.is_clean (omega (arith, no_doubt new.is_clean clean, c.write.ensures.whole.crash.clean));
      answered = λ clean. tt;
      left = λ clean d left. crash_leaves c.args.next.now c.args.plan.now old new c.requires.valid c.requires.fits law c.write.result c.write.ensures.whole (no_doubt new.is_clean clean) d left;
    }
