-- The notes of a transaction set that was read can be written.
use Rattle.std.proofs.Common.{◌≡◌, ℕ, ◌+◌, Bool, true, false, ◌&&◌, not, ◌||◌, ◌==◌, nat_lt, List, [], ◌∷◌, ◌++◌, length, map, flat_map, take, drop, if◌then◌else◌, Option, Some, None, is_some, option_map, codes, bytes_eq, refl, sym, ap, ap₂, ◌∙◌}
use Rattle.std.specs.Prelude.{filter_map}
use Rattle.std.specs.List.{list_all, cons_option}
use Rattle.std.proofs.lemmas.List.{take-append-drop}
use Rattle.std.proofs.lemmas.List.Folds.{list_all-append}
use Rattle.x12_envelopes.specs.declared.delimiters.Delims.{Delims}
use Rattle.x12_envelopes.specs.Delimiters.{bytes_are_delimiters}
use Rattle.x12_envelopes.specs.Row.{held_of_rows}
use Rattle.x12_envelopes.specs.Segment.{element_of}
use Rattle.x12_envelopes.specs.Shape.{TransactionSet}
use Rattle.x12_envelopes.specs.Fitting.{byte_is_writable, element_is_writable}
use Rattle.x12_envelopes.specs.Writable.{has_writable_elements, IsWritableSet}
use Rattle.std.proofs.lemmas.Bool.{and_parts}
use Rattle.x12_envelopes.proofs.WrittenKindLemmas.{free_element}
use Rattle.x12_judge.specs.declared.verdict.ElementCode.{ElementCode}
use Rattle.x12_judge.specs.declared.verdict.SegmentCode.TheVariants.{Unrecognized, Missing, ExceedsMaximumUse, ElementErrors}
use Rattle.x12_judge.specs.declared.element.ElementRule.{ElementRule}
use Rattle.x12_judge.specs.Element.{rules_of_elements, fault_of_element, copy_of_element}
use Rattle.x12_judge.specs.Segment.{ElementNote, SegmentNote, identifier_of, name_is_identifier, note_on_segment, note_on_element, note_of_element, element_notes, notes_at, notes_from, has_po1, notes_at_end, segment_notes}
use Rattle.x12_judge.specs.Set.{ReportedNote, segment, element as element_reported, reported, without_trailer, body_of, notes_of_set, verdict_of_set}
use Rattle.x12_envelopes.proofs.WritableElementLemmas.{element_writable}

-- Cut texts and lists.

pub apart : {X : Type 0} (p : X → Bool) (front back : List X) → list_all p (front ++ back) ≡ true → (list_all p front ≡ true) × (list_all p back ≡ true)
apart p front back all = and_parts _ _ (sym (list_all-append p front back) ∙ all)

pub joined_all : {X : Type 0} (p : X → Bool) (front back : List X) → list_all p front ≡ true → list_all p back ≡ true → list_all p (front ++ back) ≡ true
joined_all p front back first second = list_all-append p front back ∙ ap₂ (λ x y. x && y) first second

pub cut : {X : Type 0} (p : X → Bool) (n : ℕ) (xs : List X) → list_all p xs ≡ true → (list_all p (take n xs) ≡ true) × (list_all p (drop n xs) ≡ true)
cut p n xs all = apart p (take n xs) (drop n xs) (ap (list_all p) (take-append-drop n xs) ∙ all)

cut_element : (d : Delims) (n : ℕ) (e : List ℕ) → element_is_writable d e ≡ true → element_is_writable d (take n e) ≡ true
unfolding element_is_writable
cut_element d n e held = (cut (byte_is_writable d) n e held).0

pub no_element : (d : Delims) → element_is_writable d [] ≡ true
unfolding element_is_writable
no_element d = refl

-- An element's copy, and a segment's identifier, can be written.

abbrev pub is_element_note : Delims → ElementNote → Bool
is_element_note d n = element_is_writable d n.copy

abbrev pub is_segment_note : Delims → SegmentNote → Bool
is_segment_note d n = element_is_writable d n.identifier && list_all (is_element_note d) n.elements

abbrev pub is_reported_note : Delims → ReportedNote → Bool
is_reported_note d (segment name position code) = element_is_writable d name
is_reported_note d (element_reported n) = element_is_writable d n.copy

copy_writable : (d : Delims) (value : List ℕ) → element_is_writable d value ≡ true → element_is_writable d (copy_of_element d value) ≡ true
unfolding copy_of_element
copy_writable d value held = cut_element d _ (take 99 value) (cut_element d 99 value held)

-- a note, if there is one
abbrev is_noted : Delims → Option ElementNote → Bool
is_noted d None = true
is_noted d (Some n) = is_element_note d n

noted_by : (d : Delims) (r : ElementRule) (value : List ℕ) (same : Bool) (fault : Option ElementCode) → element_is_writable d value ≡ true → is_noted d (if same then option_map (note_on_element d r value) fault else None) ≡ true
noted_by d r value true None held = refl
noted_by d r value true (Some code) held = copy_writable d value held
noted_by d r value false fault held = refl

element_noted : (d : Delims) (part : List ℕ) (r : ElementRule) → has_writable_elements d part ≡ true → is_noted d (note_of_element d part r) ≡ true
unfolding note_of_element
element_noted d part r held =
    noted_by d r (element_of d part r.place) (bytes_eq r.segment (identifier_of d part)) (fault_of_element d r (element_of d part r.place)) (element_writable d part r.place held)

kept : (d : Delims) (n : Option ElementNote) (notes : List ElementNote) → is_noted d n ≡ true → list_all (is_element_note d) notes ≡ true → list_all (is_element_note d) (cons_option n notes) ≡ true
kept d None notes held all = all
kept d (Some n) notes held all = rw (held, all) refl

elements_noted : (d : Delims) (part : List ℕ) (rules : List ElementRule) → has_writable_elements d part ≡ true → list_all (is_element_note d) (filter_map (note_of_element d part) rules) ≡ true
elements_noted d part [] held = refl
elements_noted d part (r ∷ rules) held =
    kept d (note_of_element d part r) _ (element_noted d part r held) (elements_noted d part rules held)

pub element_notes_writable : (d : Delims) (part : List ℕ) → has_writable_elements d part ≡ true → list_all (is_element_note d) (element_notes d part) ≡ true
unfolding element_notes
element_notes_writable d part held = elements_noted d part rules_of_elements held

-- the rows of a table that hold
row_kept : (p : SegmentNote → Bool) (held : Bool) (n : SegmentNote) (notes : List SegmentNote) → p n ≡ true → list_all p notes ≡ true → list_all p (if held then n ∷ notes else notes) ≡ true
row_kept p true n notes one all = rw (one, all) refl
row_kept p false n notes one all = all

rows_kept : (p : SegmentNote → Bool) (rows : List (Bool × SegmentNote)) → list_all (λ row. p row.1) rows ≡ true → list_all p (held_of_rows rows) ≡ true
rows_kept p [] all = refl
rows_kept p (row ∷ rows) all =
    let h = and_parts (p row.1) (list_all (λ row. p row.1) rows) all in
    row_kept p row.0 row.1 (held_of_rows rows) h.0 (rows_kept p rows h.1)

-- the four rows of a segment, and the two of the end
at_rows : (d : Delims) (name beg : List ℕ) (position : ℕ) (faults : List ElementNote) (a b c e : Bool) → element_is_writable d (take 3 name) ≡ true → element_is_writable d (take 3 beg) ≡ true → list_all (is_element_note d) faults ≡ true → list_all (is_segment_note d) (held_of_rows ((a, note_on_segment name position Unrecognized []) ∷ (b, note_on_segment beg 2 Missing []) ∷ (c, note_on_segment name position ExceedsMaximumUse []) ∷ (e, note_on_segment name position ElementErrors faults) ∷ [])) ≡ true
at_rows d name beg position faults a b c e named begun all =
    rows_kept (is_segment_note d) ((a, note_on_segment name position Unrecognized []) ∷ (b, note_on_segment beg 2 Missing []) ∷ (c, note_on_segment name position ExceedsMaximumUse []) ∷ (e, note_on_segment name position ElementErrors faults) ∷ []) (rw (named, begun, all) refl)

end_rows : (d : Delims) (beg po1 : List ℕ) (position : ℕ) (a b : Bool) → element_is_writable d (take 3 beg) ≡ true → element_is_writable d (take 3 po1) ≡ true → list_all (is_segment_note d) (held_of_rows ((a, note_on_segment beg 2 Missing []) ∷ (b, note_on_segment po1 position Missing []) ∷ [])) ≡ true
end_rows d beg po1 position a b first second =
    rows_kept (is_segment_note d) ((a, note_on_segment beg 2 Missing []) ∷ (b, note_on_segment po1 position Missing []) ∷ []) (rw (first, second) refl)

notes_at_writable : (d : Delims) (position : ℕ) (part : List ℕ) → bytes_are_delimiters d ≡ true → has_writable_elements d part ≡ true → list_all (is_segment_note d) (notes_at d position part) ≡ true
unfolding notes_at
notes_at_writable d position part good held =
    let name = identifier_of d part in
    let is_beg = bytes_eq name (codes "BEG") in
    let faults = element_notes d part in
    at_rows d name (codes "BEG") position faults
    (not (name_is_identifier name)) (position == 2 && not is_beg) (is_beg && nat_lt 2 position)
    ((is_beg && position == 2 || bytes_eq name (codes "CTT")) && not (length faults == 0))
    (cut_element d 3 name (element_writable d part 0 held)) (free_element d (codes "BEG") good refl) (element_notes_writable d part held)

notes_from_writable : (d : Delims) (position : ℕ) (body : List (List ℕ)) → bytes_are_delimiters d ≡ true → list_all (has_writable_elements d) body ≡ true → list_all (is_segment_note d) (notes_from d position body) ≡ true
notes_from_writable d position [] good all = refl
notes_from_writable d position (part ∷ body) good all =
    let h = and_parts (has_writable_elements d part) (list_all (has_writable_elements d) body) all in
    joined_all (is_segment_note d) (notes_at d position part) (notes_from d (position + 1) body) (notes_at_writable d position part good h.0) (notes_from_writable d (position + 1) body good h.1)

notes_at_end_writable : (d : Delims) (body : List (List ℕ)) → bytes_are_delimiters d ≡ true → list_all (is_segment_note d) (notes_at_end d body) ≡ true
unfolding notes_at_end
notes_at_end_writable d body good =
    end_rows d (codes "BEG") (codes "PO1") (2 + length body) (length body == 0) (not (has_po1 d body)) (free_element d (codes "BEG") good refl) (free_element d (codes "PO1") good refl)

segment_notes_writable : (d : Delims) (body : List (List ℕ)) → bytes_are_delimiters d ≡ true → list_all (has_writable_elements d) body ≡ true → list_all (is_segment_note d) (segment_notes d body) ≡ true
unfolding segment_notes
segment_notes_writable d body good all =
    joined_all (is_segment_note d) (notes_from d 2 body) (notes_at_end d body) (notes_from_writable d 2 body good all) (notes_at_end_writable d body good)

-- The notes of a transaction set.

trailer_off : (d : Delims) (closed : Bool) (parts : List (List ℕ)) → list_all (has_writable_elements d) parts ≡ true → list_all (has_writable_elements d) (without_trailer closed parts) ≡ true
trailer_off d true parts all = (cut (has_writable_elements d) _ parts all).0
trailer_off d false parts all = all

body_writable : (d : Delims) (s : TransactionSet) → IsWritableSet d s → list_all (has_writable_elements d) (body_of s) ≡ true
unfolding body_of
body_writable d s is = trailer_off d (is_some s.trailer) (drop 1 s.parts) (cut (has_writable_elements d) 1 s.parts is.parts).1

noted_if : (d : Delims) (judged : Bool) (notes : List SegmentNote) → list_all (is_segment_note d) notes ≡ true → list_all (is_segment_note d) (if judged then notes else []) ≡ true
noted_if d true notes all = all
noted_if d false notes all = refl

notes_writable : (d : Delims) (agreed : Bool) (s : TransactionSet) → bytes_are_delimiters d ≡ true → IsWritableSet d s → list_all (is_segment_note d) (notes_of_set d agreed s) ≡ true
unfolding notes_of_set
notes_writable d agreed s good is =
    noted_if d (agreed && bytes_eq s.set (codes "850")) (segment_notes d (body_of s)) (segment_notes_writable d (body_of s) good (body_writable d s is))

elements_reported : (d : Delims) (notes : List ElementNote) → list_all (is_element_note d) notes ≡ true → list_all (is_reported_note d) (map element_reported notes) ≡ true
elements_reported d [] all = refl
elements_reported d (n ∷ notes) all =
    let h = and_parts (element_is_writable d n.copy) (list_all (is_element_note d) notes) all in
    rw (h.0, elements_reported d notes h.1) refl

all_reported : (d : Delims) (notes : List SegmentNote) → list_all (is_segment_note d) notes ≡ true → list_all (is_reported_note d) (flat_map reported notes) ≡ true
all_reported d [] all = refl
all_reported d (n ∷ notes) all =
    let h = and_parts (is_segment_note d n) (list_all (is_segment_note d) notes) all in
    let one = and_parts (element_is_writable d n.identifier) (list_all (is_element_note d) n.elements) h.0 in
    joined_all (is_reported_note d) (reported n) (flat_map reported notes) (rw (one.0, elements_reported d n.elements one.1) refl) (all_reported d notes h.1)

pub verdict_notes_writable : (d : Delims) (agreed lenient : Bool) (earlier : List TransactionSet) (s : TransactionSet) → bytes_are_delimiters d ≡ true → IsWritableSet d s → list_all (is_reported_note d) (verdict_of_set d agreed lenient earlier s).notes ≡ true
unfolding verdict_of_set
verdict_notes_writable d agreed lenient earlier s good is =
    (cut (is_reported_note d) 8 (flat_map reported (notes_of_set d agreed s)) (all_reported d (notes_of_set d agreed s) (notes_writable d agreed s good is))).0
