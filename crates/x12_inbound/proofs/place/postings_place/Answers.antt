use Rattle.std.proofs.Common.{rules}
use Rattle.std.proofs.lemmas.Fn.{always_returns_same}
use Rattle.x12_inbound.specs.declared.posting.Posting.{Posting}
use Rattle.x12_inbound.specs.Order.{interchange, interchange_holding, interchange_order}
use Rattle.x12_inbound.specs.Posting.{posting_view}
use Rattle.x12_inbound.proofs.PlaceLemmas.{posting_missed, no_such_posting}
use Rattle.x12_inbound.proofs.place.postings_place.Goals as goal

pub returns-in-Ok : goal.returns-in-Ok
returns-in-Ok c =
    let key = interchange c.args.partner.now c.args.icn in
    let by = λ (p : Posting). interchange_order (interchange_holding (posting_view p).key) key in
    let at = c.in-Ok.ensures.position by (always_returns_same _ _ _ (λ a r f called. search rules)) in
    absurd (no_such_posting c.args.postings.now key c.in-Ok.at c.in-Ok.ensures.bound at c.requires.new)

pub returns-in-Err : goal.returns-in-Err
returns-in-Err c =
    let key = interchange c.args.partner.now c.args.icn in
    let by = λ (p : Posting). interchange_order (interchange_holding (posting_view p).key) key in
    let at = c.in-Err.ensures.position by (always_returns_same _ _ _ (λ a r f called. search rules)) in
    posting_missed c.args.postings.now key c.requires.rise _ c.in-Err.ensures.bound at
