use Rattle.std.proofs.Common.{List, map, flat_map, ap, refl}
use Rattle.x12_judge.specs.declared.verdict.GroupVerdict.{GroupVerdict}
use Rattle.x12_judge.specs.Verdict.{group_verdict_view}
use Rattle.x12_inspect.specs.Finding.{group_findings}
use Rattle.x12_inspect.proofs.PrintingLemmas.{handed_on, handed_over, next_left, none_left}
use Rattle.x12_inspect.proofs.printing.print_groups.Goals as goal

pub loop-group-init : goal.loop-group-init
loop-group-init g c = λ t left. left

pub loop-group-preserved : goal.loop-group-preserved
loop-group-preserved g c =
    let one = next_left c.loop-group.group-index c.args.groups.now _ _ _ refl c.loop-group-test.true c.group-item.is in
    handed_on (g.P.Printer.prints c.args.printer.now) (g.met.P.Printer.behind c.args.printer.now) _ _ _ _ _ _ _ (ap (λ (xs : List GroupVerdict). flat_map group_findings (map group_verdict_view xs)) one) c.loop-group.invariant c.print_group.ensures

pub returns : goal.returns
returns g c =
    let over = none_left c.loop-group.group-index c.args.groups.now _ refl c.loop-group-test.false in
    handed_over (g.P.Printer.prints c.args.printer.now) (g.met.P.Printer.at_first c.args.printer.now) _ _ _ _ (ap (λ (xs : List GroupVerdict). flat_map group_findings (map group_verdict_view xs)) over) c.loop-group.invariant
