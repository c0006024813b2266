use Rattle.std.proofs.Common.{◌∷◌, [], ◌==◌, not, ap, ◌∙◌, codes}
use Rattle.x12_envelopes.specs.Row.{held_of_rows}
use Rattle.x12_judge.specs.declared.verdict.SegmentCode.TheVariants.{Missing}
use Rattle.x12_judge.specs.Note.{kept_notes}
use Rattle.x12_judge.specs.Keeping.{keeping}
use Rattle.x12_judge.specs.Set.{segment}
use Rattle.x12_judge.proofs.KeptNoteLemmas.{keeps_more}
use Rattle.x12_judge.proofs.ListLemmas.{on_ok}
use Rattle.x12_judge.proofs.SegmentNoteLemmas.{two_rows}
use Rattle.x12_judge.proofs.segment.keep_notes_at_end.Goals as goal

pub returns : goal.returns
returns c =
    let old = kept_notes c.args.notes.now in
    let after = kept_notes c.keep_if.new.self in
    let beg_missing = c.args.position == 2 in
    let po1_missing = not c.args.has_po1 in
    let beg = segment (codes "BEG") 2 Missing in
    let po1 = segment (codes "PO1") c.args.position Missing in
    on_ok c.keep_if-2.result
    (λ e. keeps_more old after (kept_notes c.keep_if-2.new.self) _ _
    (c.in_ok-keep_if.ensures ∙ ap (λ n. keeping old (held_of_rows ((beg_missing, n) ∷ []))) c.note_on.ensures)
    (e ∙ ap (λ n. keeping after (held_of_rows ((po1_missing, n) ∷ []))) c.note_on-2.ensures)
    ∙ ap (keeping old) (two_rows (beg_missing, beg) (po1_missing, po1)))
    c.keep_if-2.ensures
