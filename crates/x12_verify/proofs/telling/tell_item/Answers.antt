use Rattle.std.proofs.Common.{◌≡◌, ◌++◌, ◌∙◌, Some, map, option_map, ap, subst, sym}
use Rattle.x12_inbound.specs.Filing.{reply_bytes}
use Rattle.x12_inbound.specs.Posting.{posting_view}
use Rattle.x12_profile.specs.Edition.{edition_at}
use Rattle.x12_profile.specs.X12.{x12}
use Rattle.x12_station.specs.History.{Came, posted_by}
use Rattle.x12_station.specs.Record.{history_item, owner_view}
use Rattle.x12_station.specs.Stored.{Origin, Stored, marks_of}
use Rattle.x12_verify.specs.Arrived.{IsRightArrival}
use Rattle.x12_verify.proofs.AgainLemmas.{told_came}
use Rattle.x12_verify.proofs.telling.tell_item.Goals as goal

pub returns-in_ok-hear_again-in-Came-clause-told : goal.returns-in_ok-hear_again-in-Came-clause-told
returns-in_ok-hear_again-in-Came-clause-told g c = λ answers own.
    let content = g.R.Records.content in
    let s : Stored = content c.args.records.now in
    let me = c.args.holder.now.owner.party in
    let book = c.args.holder.now.loaded.now.book in
    let b = c.in-Came.filed.bytes.items in
    let r = reply_bytes c.in-Came.filed.reply in
    let between = c.in_ok-left-in-Came.ensures.asked.never_won_back answers in
    let first = c.in_ok-item.ensures.never_won_back between in
    let won = c.in_ok-hear_again-in-Came.ensures.never_won_back own in
    let same : content c.find_item.new.self ≡ s = c.in_ok-item.ensures.same between in
    let owned : (o : Origin) → Type 0 = λ o. IsRightArrival s me book (edition_at (marks_of o) c.args.number) b r in
    let by = owner_view c.args.holder.now.owner in
    let told_right = subst (λ (d : Stored). IsRightArrival d me book (edition_at (marks_of by) c.args.number) b r) same (c.in_ok-left-in-Came.ensures.right answers) in
    let right = subst owned (sym (c.requires.origin first)) told_right in
    let left = map posting_view c.in_ok-left-in-Came.left.left.now in
    let all = map posting_view c.args.telling.postings.left.now in
    let posted = subst (λ o. all ≡ posted_by x12 (Came (edition_at (marks_of o) c.args.number) b r) ++ left) (sym (c.requires.origin first)) c.in_ok-left-in-Came.ensures.posted in
    let at = sym (c.in_ok-item.ensures.found between) ∙ ap (option_map (history_item (marks_of s.origin) c.args.number)) (c.in-Some.is ∙ ap Some c.in-Came.is) in
    told_came s me book c.args.number c.args.again.now.state c.hear_again.new.again.state all left b c.deref-in-Came.result.now r
    (c.requires.place first won) (c.requires.marks first won) at right c.deref-in-Came.ensures.value (c.in_ok-hear_again-in-Came.ensures.told own) (c.in_ok-hear_again-in-Came.ensures.origin own) posted
