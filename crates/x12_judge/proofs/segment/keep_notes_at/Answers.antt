use Rattle.std.proofs.Common.{◌∷◌, [], ◌==◌, not, take, ap, sym, ◌∙◌, if◌then◌else◌, codes, ◌&&◌, ◌||◌, bytes_eq, nat_lt, flat_map, arith}
use Rattle.x12_envelopes.specs.Row.{held_of_rows}
use Rattle.x12_judge.specs.declared.verdict.SegmentCode.TheVariants.{Unrecognized, Missing, ExceedsMaximumUse, ElementErrors}
use Rattle.x12_judge.specs.Note.{kept_notes, with_errors}
use Rattle.x12_judge.specs.Keeping.{keeping}
use Rattle.x12_judge.specs.Segment.{notes_at, element_notes, name_is_identifier}
use Rattle.x12_judge.specs.Set.{segment, reported}
use Rattle.x12_judge.proofs.SegmentNoteLemmas.{keeps_four, four_rows, same_rows, ordinary}
use Rattle.x12_judge.proofs.KeptNoteLemmas.{nothing_noted}
use Rattle.x12_judge.proofs.segment.keep_notes_at.Goals as goal

pub returns-clause-notes : goal.returns-clause-notes
unfolding notes_at
returns-clause-notes c =
    let old = kept_notes c.args.notes.now in
    let one = kept_notes c.keep_if.new.self in
    let two = kept_notes c.keep_if-2.new.self in
    let three = kept_notes c.keep_if-3.new.self in
    let four = kept_notes c.keep_errors_if.new.notes in
    let tests = c.standing_of-at.ensures in
    let at = c.standing_of-at.result in
    let es = element_notes c.args.read.now.delims c.args.read.now.bytes.now in
    let whole = four_rows c.args.name.now (codes "BEG") c.args.position at.unrecognized at.in_place_of_beg at.beg_again at.has_rules Unrecognized Missing ExceedsMaximumUse ElementErrors es in
    keeps_four old one two three four _ _ _ _ _
    (c.in_ok-keep_if.ensures ∙ ap (λ n. keeping old (held_of_rows ((at.unrecognized, n) ∷ []))) c.note_on.ensures)
    (c.in_ok-keep_if-2.ensures ∙ ap (λ n. keeping one (held_of_rows ((at.in_place_of_beg, n) ∷ []))) c.note_on-2.ensures)
    (c.in_ok-keep_if-3.ensures ∙ ap (λ n. keeping two (held_of_rows ((at.beg_again, n) ∷ []))) c.note_on-3.ensures)
    (c.in_ok-keep_errors_if.ensures ∙ ap (λ n. keeping three (if at.has_rules then with_errors (segment (take 3 n) c.args.position ElementErrors) es else [])) (sym c.requires))
    (whole ∙ same_rows _ _ (codes "BEG") c.args.position Unrecognized Missing ExceedsMaximumUse ElementErrors es _ _ _ _ _ _ _ _ c.requires
    (tests.unrecognized ∙ ap (λ n. not (name_is_identifier n)) c.requires)
    (tests.in_place_of_beg ∙ ap (λ n. c.args.position == 2 && not (bytes_eq n (codes "BEG"))) c.requires)
    (tests.beg_again ∙ ap (λ n. bytes_eq n (codes "BEG") && nat_lt 2 c.args.position) c.requires)
    (tests.has_rules ∙ ap (λ n. bytes_eq n (codes "BEG") && c.args.position == 2 || bytes_eq n (codes "CTT")) c.requires))

pub returns-then-is_ordinary-clause-notes : goal.returns-then-is_ordinary-clause-notes
returns-then-is_ordinary-clause-notes c =
    let none = ordinary c.args.read.now.delims c.args.position c.args.read.now.bytes.now (omega (arith, c.if-position-gt2.true)) (ap (λ n. name_is_identifier n && not (bytes_eq n (codes "BEG")) && not (bytes_eq n (codes "CTT"))) (sym c.requires) ∙ sym c.is_ordinary.ensures ∙ c.if-is_ordinary.true) in
    nothing_noted c.args.notes.now.kept.items c.args.notes.now.has_other (omega (arith, c.args.notes.now.few))
    ∙ ap (λ ns. keeping (kept_notes c.args.notes.now) (flat_map reported ns)) (sym none)
