use Rattle.std.proofs.Common.{◌∙◌, List, ap, ap₂, map}
use Rattle.x12_inbound.specs.Arrival.{arrived_view}
use Rattle.x12_inbound.specs.Filing.{reply_bytes}
use Rattle.x12_judge.specs.Agreement.{agreement_view}
use Rattle.x12_judge.specs.declared.agreement.Agreement.{Agreement}
use Rattle.x12_judge.specs.declared.controls.Controls.{Controls}
use Rattle.x12_judge.specs.Controls.{JudgingTerms}
use Rattle.x12_judge.specs.Verdict.{judgement_of, judgement_view}
use Rattle.x12_profile.specs.X12.{judged_by}
use Rattle.x12_station.proofs.ArrivedNewLemmas.{plain_is}
use Rattle.x12_verify.proofs.DueLemmas.{has_due_reply, postings_are, posts_so, seen_new}
use Rattle.x12_verify.proofs.posted.keep.Goals as goal

-- these agreements of the code, and these controls
abbrev terms_so : List Agreement → Controls → JudgingTerms
terms_so ags controls = record { agreements = map agreement_view ags; controls = controls }

pub judge-requires : goal.judge-requires
judge-requires c =
    let h = c.args.header.now in
    let b = c.args.filed.now.bytes.items in
    let arrived = seen_new (arrived_view c.in-New.arrived) h b c.deref-3.result.now c.in-New.ensures c.deref-3.ensures.value in
    let judged = c.in_ok-judgement.ensures.verdict ∙ ap₂ (λ ags x. judgement_of c.args.own.now.me (terms_so ags c.controls-controls.result) h x) c.deref.ensures.value c.deref-2.ensures.value
    ∙ ap (λ k. judgement_of c.args.own.now.me (terms_so c.args.due.now.agreements.items k) h b) c.controls-controls.ensures in
    has_due_reply (arrived_view c.in-New.arrived) b h c.requires.read c.args.edition (map agreement_view c.args.due.now.agreements.items) (record c.args.own.now { at = c.args.due.now.at })
    (judgement_view c.in_ok-judgement.judgement) (reply_bytes c.args.filed.now.reply) (reply_bytes c.in_ok-reply.reply) arrived judged c.in_ok-reply.ensures c.requires.due

pub returns-in-Ok : goal.returns-in-Ok
returns-in-Ok c =
    let h = c.args.header.now in
    let b = c.args.filed.now.bytes.items in
    let ags = map agreement_view c.args.due.now.agreements.items in
    let arrived = seen_new (arrived_view c.in-New.arrived) h b c.deref-3.result.now c.in-New.ensures c.deref-3.ensures.value in
    let judged = c.in_ok-judgement.ensures.verdict ∙ ap₂ (λ ags x. judgement_of c.args.own.now.me (terms_so ags c.controls-controls.result) h x) c.deref.ensures.value c.deref-2.ensures.value
    ∙ ap (λ k. judgement_of c.args.own.now.me (terms_so c.args.due.now.agreements.items k) h b) c.controls-controls.ensures in
    postings_are (arrived_view c.in-New.arrived) b h (judgement_view c.in_ok-judgement.judgement) (judged_by c.args.edition c.args.own.now.me ags h b) (reply_bytes c.in_ok-reply.reply) c.keep.result
    (c.keep.ensures ∙ c.in-Ok.ensures.judged) arrived judged
    ∙ posts_so b h c.requires.read c.args.edition ags (record c.args.own.now { at = c.args.due.now.at }) (reply_bytes c.args.filed.now.reply) c.requires.due c.x12_meets_the_laws.ensures.laws
    c.what_is_posted_was_accepted.ensures.law (plain_is c.args.own.now.me c.requires.plain) c.requires.numbers.0 c.requires.numbers.1
