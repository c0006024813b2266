use Rattle.std.proofs.Common.{◌+◌, drop, map, flat_map}
use Rattle.std.specs.List.{enumerate_from}
use Rattle.x12_judge.specs.Verdict.{group_verdict_view, set_verdict_view}
use Rattle.x12_inspect.specs.Finding.{set_findings, group_findings}
use Rattle.x12_inspect.specs.declared.text.Text.{Text}
use Rattle.x12_inspect.proofs.printing.print_group.Given as goal

abbrev pub invariant-loop-index : goal.invariant-loop-index
invariant-loop-index g l =
    let v = group_verdict_view l.group in
    (t : Text) → g.P.Printer.prints l.printer l.out (flat_map (λ s. set_findings v s.0 s.1) (enumerate_from (l.index + 1) (map set_verdict_view (drop l.index l.group.sets.items)))) t
    → g.P.Printer.prints l.printer l.fn.out (group_findings v) t
