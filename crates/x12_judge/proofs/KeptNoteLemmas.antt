-- What is kept of notes, as they are noted one after the other.
use Rattle.std.proofs.Common.{◌≡◌, ◌≤◌, Bool, true, false, ◌||◌, List, [], ◌∷◌, ◌++◌, length, take, map, flat_map, refl, ap, ap₂, sym, ◌∙◌, append_assoc, arith}
use Rattle.std.specs.List.{list_any}
use Rattle.std.proofs.lemmas.List.{append-nil, take_all, length-map}
use Rattle.std.proofs.lemmas.List.Folds.{list_any-append}
use Rattle.x12_judge.specs.Keeping.{KeptNotes, keeping, no_notes, is_other_note, kept_as}
use Rattle.x12_judge.specs.declared.verdict.SetNote.{SetNote}
use Rattle.x12_judge.specs.Segment.{SegmentNote, ElementNote}
use Rattle.x12_judge.specs.Verdict.{note_view}
use Rattle.x12_judge.specs.Set.{ReportedNote, reported, element, is_of_no_element, is_other_code}
use Rattle.x12_numbers.proofs.Shelf.{or_false_right}
use Rattle.x12_judge.proofs.ListLemmas.{take_of_taken}

other_twice :
    (other : Bool) (xs ys : List ReportedNote)
    → ((other || list_any is_other_note xs) || list_any is_other_note ys) ≡ (other || list_any is_other_note (xs ++ ys))
other_twice true xs ys = refl
other_twice false xs ys = sym (list_any-append is_other_note xs ys)

-- what is noted in two steps is noted in one
pub keeping_twice :
    (kept : KeptNotes) (xs ys : List ReportedNote) → keeping (keeping kept xs) ys ≡ keeping kept (xs ++ ys)
unfolding keeping
keeping_twice kept xs ys =
    let first = take_of_taken 8 (kept.first ++ xs) ys ∙ ap (take 8) (append_assoc kept.first xs ys) in
    let other = other_twice kept.other xs ys in
    λ i. record { first = first i; other = other i }

-- nothing more is kept
pub keeping_none : (kept : KeptNotes) → length kept.first ≤ 8 → kept ≡ keeping kept []
unfolding keeping
keeping_none kept few =
    let first = sym (ap (take 8) (append-nil kept.first) ∙ take_all 8 kept.first few) in
    let other = sym (or_false_right kept.other false refl) in
    λ i. record { first = first i; other = other i }

pub nothing_noted : (items : List SetNote) (other : Bool) → length items ≤ 8 → kept_as items other ≡ keeping (kept_as items other) []
nothing_noted items other few = keeping_none (kept_as items other) (omega (arith, few, length-map items note_view))

-- two steps are one
pub keeps_more :
    (old one two : KeptNotes) (xs ys : List ReportedNote)
    → one ≡ keeping old xs → two ≡ keeping one ys → two ≡ keeping old (xs ++ ys)
keeps_more old one two xs ys e f = f ∙ ap (λ k. keeping k ys) e ∙ keeping_twice old xs ys

no_other : (es : List ElementNote) → list_any is_other_note (map (λ e. element e) es) ≡ false
no_other [] = refl
no_other (e ∷ es) = no_other es

-- some note is for another reason than errors in elements, as they are reported
pub others_reported :
    (notes : List SegmentNote) → list_any is_other_note (flat_map reported notes) ≡ list_any is_of_no_element notes
others_reported [] = refl
others_reported (n ∷ notes) =
    list_any-append is_other_note (reported n) (flat_map reported notes)
    ∙ ap₂ (λ a b. a || b) (ap (λ b. is_other_code n.code || b) (no_other n.elements) ∙ or_false_right (is_other_code n.code) false refl) (others_reported notes)

-- of all notes of a set the first eight are kept, as they are reported
pub first_kept : (notes : List SegmentNote) → (keeping no_notes (flat_map reported notes)).first ≡ take 8 (flat_map reported notes)
unfolding keeping
first_kept notes = refl

-- and whether one is for another reason than errors in elements
pub other_kept : (notes : List SegmentNote) → (keeping no_notes (flat_map reported notes)).other ≡ list_any is_of_no_element notes
unfolding keeping
other_kept notes = others_reported notes
