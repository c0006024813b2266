use Rattle.std.proofs.Common.{List, map, ap}
use Rattle.x12_judge.specs.declared.verdict.SetNote.{SetNote}
use Rattle.x12_judge.specs.Verdict.{note_view}
use Rattle.x12_inspect.specs.Finding.{of_note}
use Rattle.x12_inspect.proofs.PrintingLemmas.{handed_on, handed_over, next_left, none_left}
use Rattle.x12_inspect.proofs.printing.print_notes.Goals as goal

pub loop-index-init : goal.loop-index-init
loop-index-init g c = λ t left. left

pub loop-index-preserved : goal.loop-index-preserved
loop-index-preserved g c =
    let one = next_left c.loop-index.index c.args.at.now.set.now.notes.items c.deref-note-items.result.now _ _ c.deref-note-items.ensures.value c.loop-index-test.true c.note_behind-one.ensures in
    handed_on (g.P.Printer.prints c.args.printer.now) (g.met.P.Printer.behind c.args.printer.now) _ _ _ _ _ _ _ (ap (λ (zs : List SetNote). map of_note (map note_view zs)) one) c.loop-index.invariant c.note.ensures

pub returns : goal.returns
returns g c =
    let over = none_left c.loop-index.index c.args.at.now.set.now.notes.items c.deref-note-items.result.now c.deref-note-items.ensures.value c.loop-index-test.false in
    handed_over (g.P.Printer.prints c.args.printer.now) (g.met.P.Printer.at_first c.args.printer.now) _ _ _ _ (ap (λ (zs : List SetNote). map of_note (map note_view zs)) over) c.loop-index.invariant
