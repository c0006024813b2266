use Rattle.x12_answering.proofs.AnsweringLemmas.{transmission_answered}
use Rattle.x12_answering.proofs.PartLemmas.{stopped_unread, stopped_read}
use Rattle.x12_answering.proofs.answering.run_answer.Goals as goal

pub returns-clause-answered : goal.returns-clause-answered
returns-clause-answered g c =
    transmission_answered c.args.options.now (g.R.Read.remaining c.args.reader.now) c.in_ok-input.input.items _ _ _ _ c.answer_input.result
    c.in_ok-input.ensures.all (rw c.as_slice.ensures.value at c.answer_input.ensures.answered)

pub returns-clause-stopped : goal.returns-clause-stopped
returns-clause-stopped g c =
    stopped_read c.args.options.now (g.R.Read.remaining c.args.reader.now) c.in_ok-input.input.items _ _ _ _ c.answer_input.result
    c.in_ok-input.ensures.all (rw c.as_slice.ensures.value at c.answer_input.ensures.stopped)

-- nothing was written yet
pub returns-in_err-input-clause-stopped : goal.returns-in_err-input-clause-stopped
returns-in_err-input-clause-stopped g c = stopped_unread c.args.options.now (g.R.Read.remaining c.args.reader.now) _ _ _
