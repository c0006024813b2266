use Rattle.std.proofs.Common.{[], ◌∷◌}
use Rattle.x12_judge.proofs.ListLemmas.{on_ok}
use Rattle.x12_spool.specs.Deed.{Writes, Renames, Syncs}
use Rattle.x12_profile.proofs.Shelf.{on_err_so}
use Rattle.x12_spool.proofs.DeedLemmas.{adds_on, err_holds}
use Rattle.x12_spool.proofs.HandingLemmas.{stops_in_second, stops_unsure}
use Rattle.x12_spool.proofs.whole.put_by_way_of.Goals as goal

pub returns-in_err-write-clause-stopped : goal.returns-in_err-write-clause-stopped
returns-in_err-write-clause-stopped g c =
    err_holds (stops_unsure (Writes c.args.dot.now c.args.bytes.now) (Renames c.args.dot.now c.args.name.now ∷ Syncs ∷ []) _ _ c.in_err-write.ensures.unsure) _

pub returns-in_err-rename-clause-stopped : goal.returns-in_err-rename-clause-stopped
returns-in_err-rename-clause-stopped g c =
    let wrote = Writes c.args.dot.now c.args.bytes.now in
    let renamed = Renames c.args.dot.now c.args.name.now in
    err_holds (stops_in_second (wrote ∷ []) (renamed ∷ Syncs ∷ []) _ _ _ c.in_ok-write.ensures.written (stops_unsure renamed (Syncs ∷ []) _ _ c.in_err-rename.ensures.unsure)) _

pub returns-clause-whole : goal.returns-clause-whole
returns-clause-whole g c =
    let wrote = Writes c.args.dot.now c.args.bytes.now in
    let renamed = Renames c.args.dot.now c.args.name.now in
    on_ok c.sync.result (λ synced. adds_on _ _ _ (wrote ∷ []) (renamed ∷ Syncs ∷ []) c.in_ok-write.ensures.written (adds_on _ _ _ (renamed ∷ []) (Syncs ∷ []) c.in_ok-rename.ensures.renamed synced)) c.sync.ensures.synced

pub returns-clause-stopped : goal.returns-clause-stopped
returns-clause-stopped g c =
    let wrote = Writes c.args.dot.now c.args.bytes.now in
    let renamed = Renames c.args.dot.now c.args.name.now in
    on_err_so c.sync.result
    (λ unsure. stops_in_second (wrote ∷ []) (renamed ∷ Syncs ∷ []) _ _ _ c.in_ok-write.ensures.written
    (stops_in_second (renamed ∷ []) (Syncs ∷ []) _ _ _ c.in_ok-rename.ensures.renamed (stops_unsure Syncs [] _ _ unsure)))
    c.sync.ensures.unsure
