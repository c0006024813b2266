use Rattle.std.proofs.Common.{sym, subst}
use Rattle.x12_judge.specs.Verdict.{InterchangeJudgement}
use Rattle.x12_inbound.specs.Filing.{filed_row_view}
use Rattle.x12_inbound.specs.Posting.{HasFewSets}
use Rattle.x12_acks.specs.Accepted.{accepted_by_verdict}
use Rattle.x12_inbound.specs.Arrival.{ArePostingsOf}
use Rattle.x12_inbound.proofs.ArrivalLemmas.{are_postings, few_if_small}
use Rattle.x12_inbound.proofs.arrival.Arrived.judge.Goals as goal

pub make_postings-requires : goal.make_postings-requires
make_postings-requires c =
    let r = c.requires in
    subst (λ (j : InterchangeJudgement). HasFewSets j.verdict) (sym r.judgement)
    (few_if_small _ (c.judgements_are_small.ensures.small r.me r.terms r.header c.args.self.bytes.now))

pub invariant_of-result : goal.invariant_of-result
invariant_of-result c =
    let r = c.requires in
    let filed = filed_row_view (record {
      partner = c.args.self.partner;
      icn = c.args.self.icn;
      filed = record { bytes = c.in-Ok-from_slice.bytes; reply = c.args.reply };
    }) in
    subst (ArePostingsOf filed) (sym c.in-Ok.ensures)
    (subst (λ (j : InterchangeJudgement). ArePostingsOf filed (accepted_by_verdict filed.partner filed.icn j.verdict)) (sym r.judgement)
    (are_postings r.me r.terms r.header c.args.self.bytes.now filed))
