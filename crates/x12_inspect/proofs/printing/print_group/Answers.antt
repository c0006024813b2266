use Rattle.std.proofs.Common.{List, ◌+◌, map, flat_map, ap}
use Rattle.std.specs.List.{enumerate_from}
use Rattle.x12_judge.specs.declared.verdict.SetVerdict.{SetVerdict}
use Rattle.x12_judge.specs.Verdict.{group_verdict_view, set_verdict_view}
use Rattle.x12_inspect.specs.Finding.{set_findings}
use Rattle.x12_inspect.proofs.PrintingLemmas.{handed_on, next_left, none_left, group_begun}
use Rattle.x12_inspect.proofs.printing.print_group.Goals as goal

pub loop-index-init : goal.loop-index-init
loop-index-init g c = λ t left. group_begun (g.P.Printer.prints c.args.printer.now) (g.met.P.Printer.behind c.args.printer.now) (group_verdict_view c.args.group.now) _ _ t c.group.ensures left

pub loop-index-preserved : goal.loop-index-preserved
loop-index-preserved g c =
    let one = next_left c.loop-index.index c.args.group.now.sets.items c.deref-set-items.result.now _ _ c.deref-set-items.ensures.value c.loop-index-test.true c.set-item.is in
    handed_on (g.P.Printer.prints c.args.printer.now) (g.met.P.Printer.behind c.args.printer.now) _ _ _ _ _ _ _ (ap (λ (xs : List SetVerdict). flat_map (λ s. set_findings (group_verdict_view c.args.group.now) s.0 s.1) (enumerate_from (c.loop-index.index + 1) (map set_verdict_view xs))) one) c.loop-index.invariant c.print_set.ensures

pub returns : goal.returns
returns g c =
    let over = none_left c.loop-index.index c.args.group.now.sets.items c.deref-set-items.result.now c.deref-set-items.ensures.value c.loop-index-test.false in
    c.loop-index.invariant _ (rw over c.leave.ensures)
