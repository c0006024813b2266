use Rattle.std.proofs.Common.{ap, ◌∙◌}
use Rattle.x12_judge.specs.Note.{kept_notes}
use Rattle.x12_judge.specs.Keeping.{keeping}
use Rattle.x12_judge.specs.Verdict.{note_view}
use Rattle.x12_judge.proofs.KeptNoteLemmas.{keeps_more}
use Rattle.x12_judge.proofs.ListLemmas.{on_ok}
use Rattle.x12_judge.proofs.ElementErrorLemmas.{opening_row}
use Rattle.x12_judge.proofs.segment.keep_element_note.Goals as goal

pub returns : goal.returns
returns c =
    let old = kept_notes c.args.notes.now in
    let row = ap (keeping old) (opening_row c.args.noted (note_view c.args.head)) in
    on_ok c.keep.result (keeps_more old _ _ _ _ (c.in_ok-keep_if.ensures ∙ row)) c.keep.ensures
