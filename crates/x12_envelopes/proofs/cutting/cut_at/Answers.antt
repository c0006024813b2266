use Rattle.x12_envelopes.proofs.CuttingLemmas.{uncut, cut_at, cut_shorter}
use Rattle.x12_envelopes.proofs.cutting.cut_at.Goals as goal

pub returns-in_err-end-clause-none : goal.returns-in_err-end-clause-none
returns-in_err-end-clause-none c = λ none. uncut c.args.byte c.args.bytes.now c.in_err-end.ensures

pub returns-clause-some : goal.returns-clause-some
returns-clause-some c =
    cut_at c.args.byte c.args.bytes.now c.split_at.result.0.now c.split_at.result.1.now c.split_at-2.result.1.now c.in_ok-end.end c.in_ok-end.ensures.0 c.in_ok-end.ensures.1 c.split_at.ensures.front c.split_at.ensures.back c.split_at-2.ensures.back

pub returns-clause-shorter : goal.returns-clause-shorter
returns-clause-shorter c =
    cut_shorter c.args.byte c.args.bytes.now c.split_at.result.0.now c.split_at-2.result.1.now
    (cut_at c.args.byte c.args.bytes.now c.split_at.result.0.now c.split_at.result.1.now c.split_at-2.result.1.now c.in_ok-end.end c.in_ok-end.ensures.0 c.in_ok-end.ensures.1 c.split_at.ensures.front c.split_at.ensures.back c.split_at-2.ensures.back)
