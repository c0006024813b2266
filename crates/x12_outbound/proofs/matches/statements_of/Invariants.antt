use Rattle.std.proofs.Common.{◌≡◌, ◌++◌, take, map}
use Rattle.x12_acks.specs.Answer.{answer_view}
use Rattle.x12_acks.specs.Evidence.{evidence_of}
use Rattle.x12_outbound.specs.Hubs.{hubs_of}
use Rattle.x12_outbound.specs.Subject.{subjects_of}
use Rattle.x12_outbound.specs.Statement.{evidence_told, subject_told}
use Rattle.x12_outbound.specs.Ledger.{row_view, submitted_by}
use Rattle.x12_outbound.specs.Matches.{AreNamedInBoth}
use Rattle.x12_outbound.proofs.matches.statements_of.Given as goal

-- those so far are answered
abbrev pub invariant-loop-answer : goal.invariant-loop-answer
invariant-loop-answer l =
    let p = l.parties in
    let rows = map row_view l.rows in
    let closed = map row_view l.closed in
    record {
      told : map evidence_told l.out.items ≡ evidence_of (hubs_of p.hubs) (submitted_by p.me rows ++ submitted_by p.me closed) p.from (map answer_view (take l.answer-index l.answers));
      names : map subject_told l.out.items ≡ subjects_of (hubs_of p.hubs) (submitted_by p.me rows ++ submitted_by p.me closed) p.from (map answer_view (take l.answer-index l.answers));
      named : AreNamedInBoth p rows closed l.out.items;
    }
