use Rattle.std.proofs.Common.{rules, ◌∙◌, sym}
use Rattle.std.proofs.lemmas.Fn.{always_returns_same}
use Rattle.x12_acks.specs.Key.{key_view}
use Rattle.x12_inbound.specs.declared.posting.Posting.{Posting}
use Rattle.x12_inbound.specs.Order.{set_order}
use Rattle.x12_inbound.specs.Posting.{posting_view}
use Rattle.x12_numbers.proofs.Shelf.{mapped_at}
use Rattle.x12_inbound.proofs.PlaceLemmas.{posting_found, no_posting}
use Rattle.x12_inbound.proofs.place.posting_at.Goals as goal

pub returns-in-Ok : goal.returns-in-Ok
returns-in-Ok c =
    let key = key_view c.args.key.now in
    let by = λ (p : Posting). set_order (posting_view p).key key in
    let at = c.in-Ok.ensures.position by (always_returns_same _ _ _ (λ a r f called. search rules)) in
    let is = mapped_at posting_view c.args.postings.now c.in-Ok.at c.index-postings-at.result c.in-Ok.ensures.bound c.index-postings-at.is in
    sym (posting_found c.args.postings.now key c.requires c.in-Ok.at c.in-Ok.ensures.bound at ∙ is)

pub returns-in-Err : goal.returns-in-Err
returns-in-Err c =
    let key = key_view c.args.key.now in
    let by = λ (p : Posting). set_order (posting_view p).key key in
    let at = c.in-Err.ensures.position by (always_returns_same _ _ _ (λ a r f called. search rules)) in
    sym (no_posting c.args.postings.now key c.requires _ c.in-Err.ensures.bound at)
