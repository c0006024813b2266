use Rattle.std.proofs.Common.{drop, map}
use Rattle.x12_judge.specs.Verdict.{note_view}
use Rattle.x12_inspect.specs.Finding.{of_note}
use Rattle.x12_inspect.specs.declared.text.Text.{Text}
use Rattle.x12_inspect.proofs.printing.print_notes.Given as goal

abbrev pub invariant-loop-index : goal.invariant-loop-index
invariant-loop-index g l =
    (t : Text) → g.P.Printer.prints l.printer l.out (map of_note (map note_view (drop l.index l.at.set.now.notes.items))) t
    → g.P.Printer.prints l.printer l.fn.out (map of_note (map note_view l.at.set.now.notes.items)) t
