use Rattle.std.proofs.Common.{rules, ◌≡◌, ◌∙◌, ap, ap₂, sym, Some, true, false}
use Rattle.x12_envelopes.specs.Envelope.{written}
use Rattle.x12_acks.specs.Reply.{reply_of}
use Rattle.x12_judge.specs.Verdict.{judgement_view}
use Rattle.x12_station.proofs.DraftLemmas.{no_reply, with_reply}
use Rattle.x12_station.proofs.replying.reply_under.Goals as goal

pub returns-then-not-needs : goal.returns-then-not-needs
returns-then-not-needs c =
    let none : c.needs.result.reply ≡ false = search rules in
    no_reply c.args.header.now (judgement_view c.args.judgement.now) c.args.memory.now.me c.args.at.now c.args.book.now.interchange c.args.book.now.group (sym c.needs.ensures.reply ∙ none)

pub returns : goal.returns
returns c =
    let due : c.needs.result.reply ≡ true = search rules in
    let h = c.args.header.now in
    let j = judgement_view c.args.judgement.now in
    ap Some (c.in_ok-reply.ensures.reply ∙ ap₂ (λ icn gcn. written (reply_of h j c.args.memory.now.me c.args.at.now icn gcn)) c.interchange.ensures.last c.group.ensures.last)
    ∙ with_reply h j c.args.memory.now.me c.args.at.now c.args.book.now.interchange c.args.book.now.group (sym c.needs.ensures.reply ∙ due)
