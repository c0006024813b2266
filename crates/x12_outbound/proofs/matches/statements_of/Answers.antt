use Rattle.std.proofs.Common.{◌++◌, map, sym, ◌∙◌, take, arith}
use Rattle.std.proofs.lemmas.Grind.{common_steps}
use Rattle.x12_acks.specs.Answer.{answer_view}
use Rattle.x12_acks.specs.Evidence.{answer_evidence, evidence_of}
use Rattle.x12_outbound.specs.Hubs.{hubs_of}
use Rattle.x12_outbound.specs.Ledger.{row_view, submitted_by}
use Rattle.x12_outbound.specs.Subject.{subject_of, subjects_of}
use Rattle.x12_outbound.proofs.BothLemmas.{told_then, names_then, named_then}
use Rattle.x12_outbound.proofs.SubjectLemmas.{names_more, no_names}
use Rattle.x12_outbound.proofs.AnswerLemmas.{evidence_more, no_evidence}
use Rattle.x12_outbound.proofs.matches.statements_of.Goals as goal

-- no answer yet
pub loop-answer-init : goal.loop-answer-init
loop-answer-init c =
    let p = c.args.parties.now in
    let sent = submitted_by p.me (map row_view c.args.rows.now) ++ submitted_by p.me (map row_view c.args.closed.now) in
    rw c.new-out.ensures.items (record { told = sym (no_evidence (hubs_of p.hubs) sent p.from); names = sym (no_names (hubs_of p.hubs) sent p.from); named = tt })

-- the next answer
pub loop-answer-preserved : goal.loop-answer-preserved
loop-answer-preserved c =
    let p = c.args.parties.now in
    let rows = map row_view c.args.rows.now in
    let closed = map row_view c.args.closed.now in
    let sent = submitted_by p.me rows ++ submitted_by p.me closed in
    let answer = c.answer-item.result in
    let before = c.loop-answer.invariant in
    let old = c.loop-answer.out.items in
    let new = c.tell_in_both.new.out.items in
    record {
      told = told_then p rows closed (subject_of (answer_view answer)) old new (evidence_of (hubs_of p.hubs) sent p.from (map answer_view (take c.loop-answer.answer-index c.args.answers.now)))
          (answer_evidence (hubs_of p.hubs) sent p.from (answer_view answer)) before.told c.in_ok-tell_in_both.ensures
          ∙ sym (evidence_more (hubs_of p.hubs) sent p.from c.args.answers.now c.loop-answer.answer-index answer c.loop-answer-test.true c.answer-item.is);
      names = names_then p rows closed (subject_of (answer_view answer)) old new (subjects_of (hubs_of p.hubs) sent p.from (map answer_view (take c.loop-answer.answer-index c.args.answers.now)))
          (answer_evidence (hubs_of p.hubs) sent p.from (answer_view answer)) before.names c.in_ok-tell_in_both.ensures
          ∙ sym (names_more (hubs_of p.hubs) sent p.from c.args.answers.now c.loop-answer.answer-index answer c.loop-answer-test.true c.answer-item.is);
      named = named_then p rows closed (subject_of (answer_view answer)) old new (answer_evidence (hubs_of p.hubs) sent p.from (answer_view answer)) before.named c.in_ok-tell_in_both.ensures;
    }

pub returns-clause-evidence : goal.returns-clause-evidence
returns-clause-evidence c = grind (arith, common_steps)

pub returns-clause-names : goal.returns-clause-names
returns-clause-names c = grind (arith, common_steps)
