use Rattle.std.proofs.Common.{refl, sym, ◌∙◌, ◌+◌, []}
use Rattle.x12_answering.specs.Session.{session_terms}
use Rattle.x12_answering.proofs.AnsweringLemmas.{leads_at_first, leads_on, leads_more, leads_moved, leads_to_all, leads_front, leads_front_on, on_err, answers_on, incomplete_on, status_on, status_at_last, answers_done}
use Rattle.x12_answering.proofs.answering.Session.answer_all.Goals as goal
use Rattle.x12_answering.proofs.answering.Session.answer_all.Goals.{then-branch, else-branch}

pub loop-index-init : goal.loop-index-init
loop-index-init g c = record {
  numbers = c.requires.numbers;
  replies = leads_at_first _ _ _ c.requires.waits.replies;
  lines = leads_at_first _ _ _ c.requires.waits.lines;
  status = refl;
}

pub answer-requires : goal.answer-requires
answer-requires g c = record { numbers = c.loop-index.invariant.numbers }

pub loop-index-preserved : goal.loop-index-preserved
loop-index-preserved g c =
    let done = c.in_ok-answer.ensures in
    let held = c.loop-index.invariant in
    let one = answers_on (session_terms c.loop-index.self) (session_terms c.answer.new.self) c.loop-index.self.numbers c.answer.new.self.numbers
    (c.loop-index.index + 1) c.loop-index.index c.args.interchanges.now (record { ref_ptr = (0, 0); now = [] })
    c.loop-index-test.true done.terms done.next in
    let status = rw one at held.status in
    record {
      numbers = done.numbers;
      replies = leads_on _ _ _ _ _ _ _ _ _ (rw one at held.replies) done.reply c.in_ok-write_piece.ensures.moves;
      lines = leads_on _ _ _ _ _ _ _ _ _ (rw one at held.lines) done.line c.in_ok-write_piece-2.ensures.moves;
      status = elim c.if-branch.branch [
        | then-branch w ↦ incomplete_on c.loop-index.status _ _ _ _ (sym done.left ∙ w.if-branch.true) status w.status-is
        | else-branch w ↦ status_on c.loop-index.status _ _ _ _ (sym done.left ∙ w.if-branch.false) status w.status-is
      ];
    }

pub returns-clause-replies : goal.returns-clause-replies
returns-clause-replies g c =
    let over = answers_done (session_terms c.loop-index.self) c.loop-index.self.numbers (c.loop-index.index + 1) c.loop-index.index
    c.args.interchanges.now c.loop-index-test.false in
    let gathered = c.in_ok-write_last.ensures in
    leads_to_all _ _ _ _ _ _ (rw over at c.loop-index.invariant.replies) gathered.moves gathered.empty

pub returns-clause-lines : goal.returns-clause-lines
returns-clause-lines g c =
    let over = answers_done (session_terms c.loop-index.self) c.loop-index.self.numbers (c.loop-index.index + 1) c.loop-index.index
    c.args.interchanges.now c.loop-index-test.false in
    let gathered = c.in_ok-write_last-2.ensures in
    leads_to_all _ _ _ _ _ _ (rw over at c.loop-index.invariant.lines) gathered.moves gathered.empty

pub returns-clause-status : goal.returns-clause-status
returns-clause-status g c =
    let over = answers_done (session_terms c.loop-index.self) c.loop-index.self.numbers (c.loop-index.index + 1) c.loop-index.index
    c.args.interchanges.now c.loop-index-test.false in
    status_at_last c.loop-index.status _ (rw over at c.loop-index.invariant.status)

-- answering fails: what was written before stands
pub returns-in_err-answer-clause-some_replies : goal.returns-in_err-answer-clause-some_replies
returns-in_err-answer-clause-some_replies g c = on_err _ (leads_front _ _ _ _ _ c.loop-index.invariant.replies)

pub returns-in_err-answer-clause-some_lines : goal.returns-in_err-answer-clause-some_lines
returns-in_err-answer-clause-some_lines g c = on_err _ (leads_front _ _ _ _ _ c.loop-index.invariant.lines)

-- writing fails behind an interchange
pub returns-in_err-write_piece-clause-some_replies : goal.returns-in_err-write_piece-clause-some_replies
returns-in_err-write_piece-clause-some_replies g c =
    let done = c.in_ok-answer.ensures in
    let one = answers_on (session_terms c.loop-index.self) (session_terms c.answer.new.self) c.loop-index.self.numbers c.answer.new.self.numbers
    (c.loop-index.index + 1) c.loop-index.index c.args.interchanges.now (record { ref_ptr = (0, 0); now = [] })
    c.loop-index-test.true done.terms done.next in
    let gathered = leads_more _ _ _ _ _ _ _ (rw one at c.loop-index.invariant.replies) done.reply in
    on_err _ (leads_front_on _ _ _ _ _ _ gathered c.in_err-write_piece.ensures.front)

pub returns-in_err-write_piece-clause-some_lines : goal.returns-in_err-write_piece-clause-some_lines
returns-in_err-write_piece-clause-some_lines g c = on_err _ (leads_front _ _ _ _ _ c.loop-index.invariant.lines)

pub returns-in_err-write_piece-2-clause-some_replies : goal.returns-in_err-write_piece-2-clause-some_replies
returns-in_err-write_piece-2-clause-some_replies g c =
    let done = c.in_ok-answer.ensures in
    let one = answers_on (session_terms c.loop-index.self) (session_terms c.answer.new.self) c.loop-index.self.numbers c.answer.new.self.numbers
    (c.loop-index.index + 1) c.loop-index.index c.args.interchanges.now (record { ref_ptr = (0, 0); now = [] })
    c.loop-index-test.true done.terms done.next in
    on_err _ (leads_front _ _ _ _ _ (leads_on _ _ _ _ _ _ _ _ _ (rw one at c.loop-index.invariant.replies) done.reply c.in_ok-write_piece.ensures.moves))

pub returns-in_err-write_piece-2-clause-some_lines : goal.returns-in_err-write_piece-2-clause-some_lines
returns-in_err-write_piece-2-clause-some_lines g c =
    let done = c.in_ok-answer.ensures in
    let one = answers_on (session_terms c.loop-index.self) (session_terms c.answer.new.self) c.loop-index.self.numbers c.answer.new.self.numbers
    (c.loop-index.index + 1) c.loop-index.index c.args.interchanges.now (record { ref_ptr = (0, 0); now = [] })
    c.loop-index-test.true done.terms done.next in
    let gathered = leads_more _ _ _ _ _ _ _ (rw one at c.loop-index.invariant.lines) done.line in
    on_err _ (leads_front_on _ _ _ _ _ _ gathered c.in_err-write_piece-2.ensures.front)

-- writing fails at last
pub returns-in_err-write_last-clause-some_replies : goal.returns-in_err-write_last-clause-some_replies
returns-in_err-write_last-clause-some_replies g c =
    on_err _ (leads_front_on _ _ _ _ _ _ c.loop-index.invariant.replies c.in_err-write_last.ensures.front)

pub returns-in_err-write_last-clause-some_lines : goal.returns-in_err-write_last-clause-some_lines
returns-in_err-write_last-clause-some_lines g c = on_err _ (leads_front _ _ _ _ _ c.loop-index.invariant.lines)

pub returns-in_err-write_last-2-clause-some_replies : goal.returns-in_err-write_last-2-clause-some_replies
returns-in_err-write_last-2-clause-some_replies g c =
    on_err _ (leads_front _ _ _ _ _ (leads_moved _ _ _ _ _ _ _ c.loop-index.invariant.replies c.in_ok-write_last.ensures.moves))

pub returns-in_err-write_last-2-clause-some_lines : goal.returns-in_err-write_last-2-clause-some_lines
returns-in_err-write_last-2-clause-some_lines g c =
    on_err _ (leads_front_on _ _ _ _ _ _ c.loop-index.invariant.lines c.in_err-write_last-2.ensures.front)
