use Rattle.std.proofs.Common.{◌∙◌, ap, sym, option_map}
use Rattle.x12_inbound.specs.Filing.{filed_under, reply_bytes}
use Rattle.x12_verify.proofs.DueLemmas.{found_rightly}
use Rattle.x12_verify.proofs.arrived.test_filed.Goals as goal

pub returns-then-is_same_filed-clause-filed : goal.returns-then-is_same_filed-clause-filed
returns-then-is_same_filed-clause-filed g c = λ answers.
    let b = c.args.filed.now.bytes.items in
    let found = sym (ap (option_map (λ f. filed_under c.args.header.now.sender c.args.header.now.icn f)) c.in-Some.is) ∙ c.in_ok-found.ensures.found answers in
    found_rightly (g.R.Records.content c.args.records.now) b c.args.header.now c.requires.read (reply_bytes c.args.filed.now.reply) (reply_bytes c.in-Some.found.reply) c.in-Some.found.bytes.items
    (c.is_same_filed.ensures.bytes c.if-is_same_filed.true) (c.is_same_filed.ensures.reply c.if-is_same_filed.true) found
