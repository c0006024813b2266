use Rattle.x12_envelopes.specs.Writing.{texts}
use Rattle.x12_answering.specs.Session.{session_terms}
use Rattle.x12_answering.proofs.AnsweringLemmas.{input_answered}
use Rattle.x12_answering.proofs.PartLemmas.{stopped_before, stopped_on}
use Rattle.x12_answering.proofs.answering.answer_input.Goals as goal

pub returns-clause-answered : goal.returns-clause-answered
returns-clause-answered g c =
    input_answered c.args.options.now (session_terms c.in_ok-session.session) c.in_ok-session.session.numbers
    c.args.input.now (texts c.in_ok-interchanges.interchanges.items) _ _ _ _ c.answer_all.result
    c.in_ok-session.ensures.terms c.in_ok-session.ensures.numbers c.in_ok-interchanges.ensures.slices
    (rw c.as_slice.ensures.value at c.answer_all.ensures.replies)
    (rw c.as_slice.ensures.value at c.answer_all.ensures.lines)
    (rw c.as_slice.ensures.value at c.answer_all.ensures.status)

pub returns-clause-stopped : goal.returns-clause-stopped
returns-clause-stopped g c =
    stopped_on c.args.options.now (session_terms c.in_ok-session.session) c.in_ok-session.session.numbers
    c.args.input.now (texts c.in_ok-interchanges.interchanges.items) _ _ _ _ c.answer_all.result
    c.in_ok-session.ensures.terms c.in_ok-session.ensures.numbers c.in_ok-interchanges.ensures.slices
    (rw c.as_slice.ensures.value at c.answer_all.ensures.some_replies)
    (rw c.as_slice.ensures.value at c.answer_all.ensures.some_lines)

-- nothing was written yet
pub returns-in_err-interchanges-clause-stopped : goal.returns-in_err-interchanges-clause-stopped
returns-in_err-interchanges-clause-stopped g c = stopped_before c.args.options.now c.args.input.now _ _ _

pub returns-in_err-session-clause-stopped : goal.returns-in_err-session-clause-stopped
returns-in_err-session-clause-stopped g c = stopped_before c.args.options.now c.args.input.now _ _ _
