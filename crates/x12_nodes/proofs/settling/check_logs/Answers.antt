-- What was checked makes the logs one run.
use Rattle.std.proofs.Common.{List, subst, sym, ◌≡◌}
use Rattle.x12_nodes.specs.Settling.{IsInconsistent}
use Rattle.x12_nodes.specs.View.{Receipt}
use Rattle.x12_nodes.proofs.SettlingLemmas.{are_one_run, each_answers, each_replayed}
use Rattle.x12_outbound.proofs.SubmittingLemmas.{handed}
use Rattle.x12_nodes.proofs.settling.check_logs.Goals as goal

pub returns-in_err-look_over-clause-inconsistent : goal.returns-in_err-look_over-clause-inconsistent
returns-in_err-look_over-clause-inconsistent g c =
    handed c.from_residual.result c.in_err-look_over.field-0.0 (λ f. (passes : List (List Receipt)) → IsInconsistent c.args.cells.now passes f) (λ e f. f ≡ e)
    (λ f same passes. subst (IsInconsistent c.args.cells.now passes) (sym same) (c.in_err-look_over.ensures.inconsistent passes))
    c.from_residual.ensures.1

pub returns-clause-run : goal.returns-clause-run
returns-clause-run g c = λ answers.
    let cells = c.args.cells.now in
    let nothing = c.in_ok-look_over.ensures.nothing in
    are_one_run cells (λ d has. each_replayed cells d c.are_replayed.ensures has) (λ d has. each_answers cells d answers has)
    nothing.stamp nothing.packet nothing.replay c.merge_is_run.ensures.run c.merge_is_run.ensures.each
