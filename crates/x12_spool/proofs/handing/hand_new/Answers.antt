use Rattle.std.proofs.Common.{[], ◌∷◌, map}
use Rattle.x12_judge.proofs.ListLemmas.{on_ok}
use Rattle.x12_inbound.specs.Posting.{posting_view}
use Rattle.x12_spool.specs.Deed.{Drafts, Syncs, Marks, Names}
use Rattle.x12_profile.proofs.Shelf.{on_err_so}
use Rattle.x12_spool.proofs.DeedLemmas.{adds_on, err_holds}
use Rattle.x12_spool.proofs.HandingLemmas.{stops_in_first, stops_in_second, stops_unsure}
use Rattle.x12_spool.proofs.handing.hand_new.Goals as goal

pub returns-in_err-draft_each-clause-stopped : goal.returns-in_err-draft_each-clause-stopped
returns-in_err-draft_each-clause-stopped g c =
    let all = map posting_view c.args.postings.now in
    err_holds (stops_in_first (map Drafts all) (Syncs ∷ Marks c.args.count ∷ map Names all) _ _ c.in_err-draft_each.ensures.stopped) _

pub returns-in_err-sync-clause-stopped : goal.returns-in_err-sync-clause-stopped
returns-in_err-sync-clause-stopped g c =
    let all = map posting_view c.args.postings.now in
    let behind = Marks c.args.count ∷ map Names all in
    err_holds (stops_in_second (map Drafts all) (Syncs ∷ behind) _ _ _ c.in_ok-draft_each.ensures.drafted
    (stops_unsure Syncs behind _ _ c.in_err-sync.ensures.unsure)) _

pub returns-in_err-mark-clause-stopped : goal.returns-in_err-mark-clause-stopped
returns-in_err-mark-clause-stopped g c =
    let all = map posting_view c.args.postings.now in
    let behind = Marks c.args.count ∷ map Names all in
    err_holds (stops_in_second (map Drafts all) (Syncs ∷ behind) _ _ _ c.in_ok-draft_each.ensures.drafted
    (stops_in_second (Syncs ∷ []) behind _ _ _ c.in_ok-sync.ensures.synced
    (stops_unsure (Marks c.args.count) (map Names all) _ _ c.in_err-mark.ensures.unsure))) _

pub returns-clause-handed : goal.returns-clause-handed
returns-clause-handed g c =
    let all = map posting_view c.args.postings.now in
    let behind = Marks c.args.count ∷ map Names all in
    on_ok c.name_each.result
    (λ named. adds_on _ _ _ (map Drafts all) (Syncs ∷ behind) c.in_ok-draft_each.ensures.drafted
    (adds_on _ _ _ (Syncs ∷ []) behind c.in_ok-sync.ensures.synced
    (adds_on _ _ _ (Marks c.args.count ∷ []) (map Names all) c.in_ok-mark.ensures.marked named)))
    c.name_each.ensures.named

pub returns-clause-stopped : goal.returns-clause-stopped
returns-clause-stopped g c =
    let all = map posting_view c.args.postings.now in
    let behind = Marks c.args.count ∷ map Names all in
    on_err_so c.name_each.result
    (λ stopped. stops_in_second (map Drafts all) (Syncs ∷ behind) _ _ _ c.in_ok-draft_each.ensures.drafted
    (stops_in_second (Syncs ∷ []) behind _ _ _ c.in_ok-sync.ensures.synced
    (stops_in_second (Marks c.args.count ∷ []) (map Names all) _ _ _ c.in_ok-mark.ensures.marked stopped)))
    c.name_each.ensures.stopped
