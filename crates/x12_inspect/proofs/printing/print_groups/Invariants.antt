use Rattle.std.proofs.Common.{drop, map, flat_map}
use Rattle.x12_judge.specs.Verdict.{group_verdict_view}
use Rattle.x12_inspect.specs.Finding.{group_findings}
use Rattle.x12_inspect.specs.declared.text.Text.{Text}
use Rattle.x12_inspect.proofs.printing.print_groups.Given as goal

abbrev pub invariant-loop-group : goal.invariant-loop-group
invariant-loop-group g l =
    (t : Text) → g.P.Printer.prints l.printer l.out (flat_map group_findings (map group_verdict_view (drop l.group-index l.groups))) t
    → g.P.Printer.prints l.printer l.fn.out (flat_map group_findings (map group_verdict_view l.groups)) t
