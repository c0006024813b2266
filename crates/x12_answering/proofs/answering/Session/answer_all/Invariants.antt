use Rattle.std.proofs.Common.{◌≡◌, drop, ◌+◌}
use Rattle.x12_answering.specs.Number.{AreNext}
use Rattle.x12_answering.specs.Answering.{answers_from, replies_in, lines_in, is_incomplete, status_by}
use Rattle.x12_envelopes.specs.Writing.{texts}
use Rattle.x12_answering.specs.Session.{session_terms}
use Rattle.x12_answering.proofs.AnsweringLemmas.{Leads, status_behind}
use Rattle.x12_answering.proofs.answering.Session.answer_all.Given as goal

abbrev pub invariant-loop-index : goal.invariant-loop-index
invariant-loop-index g l =
    let all = answers_from (session_terms l.fn.self) l.fn.self.numbers 1 (texts l.interchanges) in
    let left = answers_from (session_terms l.self) l.self.numbers (l.index + 1) (texts (drop l.index l.interchanges)) in
    record {
      numbers : AreNext l.self.numbers;
      replies : Leads (g.W.Write.contents l.fn.out) (g.W.Write.contents l.out) l.self.replies.items (replies_in left) (replies_in all);
      lines : Leads (g.E.Write.contents l.fn.err) (g.E.Write.contents l.err) l.self.lines.items (lines_in left) (lines_in all);
      status : status_behind l.status (is_incomplete left) ≡ status_by (is_incomplete all);
    }
