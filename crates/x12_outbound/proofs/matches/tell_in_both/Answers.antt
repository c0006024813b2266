use Rattle.std.proofs.Common.{◌++◌, Some, map, List, OnOk, subst}
use Rattle.x12_envelopes.specs.declared.shape.SetNo.{SetNo}
use Rattle.x12_acks.specs.declared.answer.AnswerCode.{AnswerCode}
use Rattle.x12_acks.specs.Answer.{set_answer_view}
use Rattle.x12_acks.specs.Evidence.{answer_evidence}
use Rattle.x12_outbound.specs.Ledger.{row_view, submitted_by}
use Rattle.x12_outbound.specs.Subject.{a_group}
use Rattle.x12_outbound.specs.Matches.{AddsInBoth, functional_evidence}
use Rattle.x12_outbound.proofs.matches.tell_in_both.Goals as goal

-- a 997
pub returns-in-Group : goal.returns-in-Group
unfolding answer_evidence
returns-in-Group c =
    let p = c.args.parties.now in
    let rows = map row_view c.args.rows.now in
    let closed = map row_view c.args.closed.now in
    rw c.in-Group.is (subst (λ (listed : List (SetNo × AnswerCode)). OnOk c.tell_functional.result (AddsInBoth p rows closed (Some (a_group c.in-Group.functional c.in-Group.number)) c.args.out.now.items c.tell_functional.new.out.items
    (functional_evidence p (submitted_by p.me rows ++ submitted_by p.me closed) (record { functional = c.in-Group.functional; number = c.in-Group.number; code = c.in-Group.code; sets = map set_answer_view listed })))) c.deref.ensures.value c.tell_functional.ensures)
