use Rattle.std.proofs.Common.{◌++◌, length, flat_map, codes, ap, sym, ◌∙◌}
use Rattle.std.proofs.lemmas.Grind.{flat_map-append}
use Rattle.x12_envelopes.specs.Shape.{set_view}
use Rattle.x12_judge.specs.declared.verdict.SegmentCode.TheVariants.{Missing}
use Rattle.x12_judge.specs.Note.{kept_notes}
use Rattle.x12_judge.specs.Keeping.{keeping, no_notes}
use Rattle.x12_judge.specs.Segment.{has_po1, notes_from, notes_at_end, segment_notes}
use Rattle.x12_judge.specs.Set.{body_of, reported}
use Rattle.x12_judge.proofs.KeptNoteLemmas.{keeps_more}
use Rattle.x12_judge.proofs.SetNoteLemmas.{rows_at_end}
use Rattle.x12_judge.proofs.set.purchase_order_notes.Goals as goal

pub returns : goal.returns
unfolding segment_notes notes_at_end
returns c =
    let d = c.args.delims.now in
    let body = body_of (set_view d c.args.set.now) in
    let end = c.in_ok-end.end in
    let first = flat_map reported (notes_from d 2 body) in
    let seen = c.in_ok-end.ensures in
    let rows = rows_at_end (codes "BEG") (codes "PO1") Missing end.position (length body) end.has_po1 (has_po1 d body) seen.position seen.po1 in
    keeps_more no_notes (kept_notes c.keep_body_notes.new.notes) (kept_notes c.keep_notes_at_end.new.notes) first _
    (seen.notes ∙ ap (λ k. keeping k first) c.new-notes.ensures)
    c.in_ok-keep_notes_at_end.ensures
    ∙ ap (keeping no_notes) (ap (λ xs. first ++ xs) rows ∙ sym (flat_map-append reported (notes_from d 2 body) (notes_at_end d body)))
