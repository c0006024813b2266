-- The notes of a segment with element errors, as they are found one after the other.
use Rattle.std.proofs.Common.{◌≡◌, ◌≤◌, Bool, true, false, not, List, [], ◌∷◌, ◌++◌, length, map, Option, Some, None, option_map, refl, ap, sym, ◌∙◌}
use Rattle.std.specs.List.{cons_option}
use Rattle.x12_envelopes.specs.Row.{held_of_rows}
use Rattle.x12_judge.specs.Note.{opening, with_errors}
use Rattle.x12_judge.specs.Keeping.{KeptNotes, keeping}
use Rattle.x12_judge.specs.Segment.{ElementNote}
use Rattle.x12_judge.specs.Set.{ReportedNote, element}
use Rattle.x12_judge.proofs.KeptNoteLemmas.{keeping_twice, keeping_none}

-- what is still to be noted, once the segment is noted and before
abbrev pub to_come : Bool → ReportedNote → List ElementNote → List ReportedNote
to_come true head es = map (λ n. element n) es
to_come false head es = with_errors head es

-- the row of a segment's note is what opens its elements' notes
pub opening_row : (noted : Bool) (v : ReportedNote) → held_of_rows ((not noted, v) ∷ []) ≡ opening noted v
opening_row true v = refl
opening_row false v = refl

one_more :
    (noted : Bool) (head : ReportedNote) (e : ElementNote) (es : List ElementNote)
    → (opening noted head ++ element e ∷ []) ++ to_come true head es ≡ to_come noted head (e ∷ es)
one_more true head e es = refl
one_more false head e es = refl

-- an element that is noted
pub note_found :
    (o : Option ElementNote) (es : List ElementNote) (v : ReportedNote) (noted : Bool) (head : ReportedNote)
    (kept more all : KeptNotes)
    → Some v ≡ option_map (λ n. element n) o
    → more ≡ keeping kept (opening noted head ++ v ∷ [])
    → keeping kept (to_come noted head (cons_option o es)) ≡ all
    → keeping more (to_come true head es) ≡ all
note_found None es v noted head kept more all is kept_more so_far = cc
note_found (Some e) es v noted head kept more all is kept_more so_far =
    let same : v ≡ element e = cc in
    let joined = opening noted head ++ element e ∷ [] in
    let after = to_come true head es in
    ap (λ ks. keeping ks after) (kept_more ∙ ap (λ x. keeping kept (opening noted head ++ x ∷ [])) same)
    ∙ keeping_twice kept joined after
    ∙ ap (keeping kept) (one_more noted head e es)
    ∙ so_far

-- an element with no note
pub none_found :
    (o : Option ElementNote) (es : List ElementNote) (noted : Bool) (head : ReportedNote) (kept all : KeptNotes)
    → None ≡ option_map (λ n. element n) o
    → keeping kept (to_come noted head (cons_option o es)) ≡ all
    → keeping kept (to_come noted head es) ≡ all
none_found None es noted head kept all is so_far = so_far
none_found (Some e) es noted head kept all is so_far = cc

none_left : (noted : Bool) (head : ReportedNote) → to_come noted head [] ≡ []
none_left true head = refl
none_left false head = refl

-- no rule is left
pub all_found :
    (noted : Bool) (head : ReportedNote) (kept all : KeptNotes) → length kept.first ≤ 8
    → keeping kept (to_come noted head []) ≡ all → kept ≡ all
all_found noted head kept all few so_far =
    keeping_none kept few ∙ sym (ap (keeping kept) (none_left noted head)) ∙ so_far
