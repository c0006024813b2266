use Rattle.std.proofs.Common.{◌∙◌, sym}
use Rattle.x12_judge.specs.Verdict.{group_verdict_view, set_verdict_view}
use Rattle.x12_inspect.proofs.PrintingLemmas.{set_without_errors, set_with_errors}
use Rattle.x12_inspect.proofs.printing.print_set.Goals as goal

pub returns-then-is_without_errors : goal.returns-then-is_without_errors
returns-then-is_without_errors g c = set_without_errors (g.P.Printer.prints c.args.printer.now) (g.met.P.Printer.behind c.args.printer.now) (group_verdict_view c.args.at.now.group.now) _ (set_verdict_view c.args.at.now.set.now) _ _ _ (sym c.is_without_errors.ensures ∙ c.if-is_without_errors.true) c.set.ensures c.leave.ensures

pub returns : goal.returns
returns g c = set_with_errors (g.P.Printer.prints c.args.printer.now) (g.met.P.Printer.behind c.args.printer.now) (group_verdict_view c.args.at.now.group.now) _ (set_verdict_view c.args.at.now.set.now) _ _ _ _ (sym c.is_without_errors.ensures ∙ c.if-is_without_errors.false) c.set.ensures c.print_notes.ensures c.leave-2.ensures
