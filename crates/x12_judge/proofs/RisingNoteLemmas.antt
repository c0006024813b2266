-- The notes of a transaction set rise.
use Rattle.std.proofs.Common.{◌≡◌, ℕ, ◌+◌, ◌<◌, ◌≤◌, Bool, true, false, not, ◌&&◌, ◌||◌, ◌==◌, nat_lt, bytes_eq, codes, List, [], ◌∷◌, ◌++◌, length, filter_map, Option, Some, None, option_map, if◌then◌else◌, All, AllPairs, refl, sym, ap, ◌∙◌, arith, inl, inr}
use Rattle.std.specs.List.{AllByRecursion, cons_option}
use Rattle.std.proofs.lemmas.Bool.Decides.{nat_tests}
use Rattle.std.proofs.lemmas.List.Elements.{All-cons, All-nil}
use Rattle.std.proofs.lemmas.List.Kept.{AllPairs-cons}
use Rattle.std.proofs.lemmas.Slice.Eq.{bytes_eq-Decides}
use Rattle.x12_envelopes.specs.Row.{held_of_rows}
use Rattle.x12_envelopes.specs.declared.delimiters.Delims.{Delims}
use Rattle.x12_judge.specs.declared.element.ElementRule.{ElementRule}
use Rattle.x12_judge.specs.declared.verdict.ElementCode.{ElementCode}
use Rattle.x12_judge.specs.declared.verdict.SegmentCode.TheVariants.{Unrecognized, Missing, ExceedsMaximumUse, ElementErrors}
use Rattle.x12_judge.specs.Element.{rules_of_elements, fault_of_element}
use Rattle.x12_judge.specs.Segment.{SegmentNote, ElementNote, identifier_of, name_is_identifier, note_on_element, note_of_element, element_notes, note_on_segment, notes_at, notes_from, has_po1, notes_at_end, segment_notes}
use Rattle.x12_judge.specs.Set.{body_of, notes_of_set}
use Rattle.x12_judge.specs.Laws.{IsNoteBefore, ElementsRise, AreRisingNotes, NotesRise}
use Rattle.x12_numbers.proofs.Shelf.{all_append, all_weaker}

-- Lists in which each element stands before all behind it.

abbrev Ordered : {X : Type 0} → (X → X → Type 0) → List X → Type 0
Ordered R [] = Unit {0}
Ordered R (x ∷ xs) = AllByRecursion (R x) xs × Ordered R xs

all_of : {X : Type 0} (P : X → Type 0) (xs : List X) → AllByRecursion P xs → All P xs
all_of P [] all = All-nil P
all_of P (x ∷ xs) all = All-cons P x xs all.0 (all_of P xs all.1)

pairs_of : {X : Type 0} (R : X → X → Type 0) (xs : List X) → Ordered R xs → AllPairs R xs
pairs_of R [] ordered = λ i j d before within. absurd (omega arith)
pairs_of R (x ∷ xs) ordered = AllPairs-cons R x xs (all_of (R x) xs ordered.0) (pairs_of R xs ordered.1)

-- two such lists, each element of the one before all of the other
ordered_both : {X : Type 0} (R : X → X → Type 0) (xs ys : List X) → Ordered R xs → Ordered R ys → AllByRecursion (λ x. AllByRecursion (R x) ys) xs → Ordered R (xs ++ ys)
ordered_both R [] ys first second across = second
ordered_both R (x ∷ xs) ys first second across = (all_append (R x) xs ys first.0 across.0, ordered_both R xs ys first.1 second across.1)

-- Rows of a table.

abbrev RowsHave : {X : Type 0} → (X → Type 0) → List (Bool × X) → Type 0
RowsHave P [] = Unit {0}
RowsHave P (row ∷ rows) = (row.0 ≡ true → P row.1) × RowsHave P rows

abbrev RowsOrdered : {X : Type 0} → (X → X → Type 0) → List (Bool × X) → Type 0
RowsOrdered R [] = Unit {0}
RowsOrdered R (row ∷ rows) = (row.0 ≡ true → RowsHave (R row.1) rows) × RowsOrdered R rows

held_have : {X : Type 0} (P : X → Type 0) (rows : List (Bool × X)) → RowsHave P rows → AllByRecursion P (held_of_rows rows)
held_have P [] have = tt
held_have P (row ∷ rows) have = by row.0 (held_of_rows rows) have.0 (held_have P rows have.1)
  where
    by : (b : Bool) (held : List _) → (b ≡ true → P row.1) → AllByRecursion P held → AllByRecursion P (if b then row.1 ∷ held else held)
    by true held one all = (one refl, all)
    by false held one all = all

held_ordered : {X : Type 0} (R : X → X → Type 0) (rows : List (Bool × X)) → RowsOrdered R rows → Ordered R (held_of_rows rows)
held_ordered R [] ordered = tt
held_ordered R (row ∷ rows) ordered = by row.0 (held_of_rows rows) (λ holds. held_have (R row.1) rows (ordered.0 holds)) (held_ordered R rows ordered.1)
  where
    by : (b : Bool) (held : List _) → (b ≡ true → AllByRecursion (R row.1) held) → Ordered R held → Ordered R (if b then row.1 ∷ held else held)
    by true held one all = (one refl, all)
    by false held one all = all

-- What is picked of a list.

picked_have : {X Y : Type 0} (h : X → Option Y) (P : Y → Type 0) (xs : List X) → AllByRecursion (λ x. (y : Y) → h x ≡ Some y → P y) xs → AllByRecursion P (filter_map h xs)
picked_have h P [] have = tt
picked_have h P (x ∷ xs) have = by (h x) refl (filter_map h xs) (picked_have h P xs have.1)
  where
    by : (o : Option _) → h x ≡ o → (ys : List _) → AllByRecursion P ys → AllByRecursion P (cons_option o ys)
    by None is ys all = all
    by (Some y) is ys all = (have.0 y is, all)

picked_ordered : {X Y : Type 0} (h : X → Option Y) (R : Y → Y → Type 0) (xs : List X)
    → Ordered (λ x q. (a b : Y) → h x ≡ Some a → h q ≡ Some b → R a b) xs → Ordered R (filter_map h xs)
picked_ordered h R [] ordered = tt
picked_ordered h R (x ∷ xs) ordered = by (h x) refl (picked_ordered h R xs ordered.1)
  where
    by : (o : Option _) → h x ≡ o → Ordered R (filter_map h xs) → Ordered R (cons_option o (filter_map h xs))
    by None is rest = rest
    by (Some a) is rest = (picked_have h (R a) xs (all_weaker _ (λ q. (b : _) → h q ≡ Some b → R a b) xs (λ q all b at. all a b is at) ordered.0), rest)

-- The notes on a segment's elements.

module _ (d : Delims) (part : List ℕ) where
  -- a note on an element is at its rule's place, of a segment of its rule
  record IsByRule (r : ElementRule) (n : ElementNote) : Type 0 where
    place : n.place ≡ r.place
    segment : r.segment ≡ identifier_of d part

  by_rule : (r : ElementRule) (n : ElementNote) → note_of_element d part r ≡ Some n → IsByRule r n
  unfolding note_of_element
  by_rule r n is = by (bytes_eq r.segment (identifier_of d part)) refl (fault_of_element d r value) is
    where
      value : List ℕ
      value = Rattle.x12_envelopes.specs.Segment.element_of d part r.place

      by : (b : Bool) → bytes_eq r.segment (identifier_of d part) ≡ b → (o : Option ElementCode) → (if b then option_map (note_on_element d r value) o else None) ≡ Some n → IsByRule r n
      by true same (Some code) is = record { place = ap (λ (m : ElementNote). m.place) (some_same (sym is)); segment = (bytes_eq-Decides r.segment (identifier_of d part)).0 same }
        where
          some_same : {x y : ElementNote} → Some x ≡ Some y → x ≡ y
          some_same same = cc
      by true same None is = absurd (let no : ⊥ = cc is in no)
      by false other o is = absurd (let no : ⊥ = cc is in no)

  abbrev Later : ElementRule → ElementRule → Type 0
  Later r q = (a b : ElementNote) → note_of_element d part r ≡ Some a → note_of_element d part q ≡ Some b → a.place < b.place

  later : (r q : ElementRule) → r.place < q.place → Later r q
  later r q below a b first second = let one = (by_rule r a first).place in let two = (by_rule q b second).place in omega (arith, one, two, below)

  -- a segment isn't a BEG and a CTT
  other : (r q : ElementRule) → r.segment ≡ codes "BEG" → q.segment ≡ codes "CTT" → Later r q
  other r q beg ctt a b first second =
      let same : codes "BEG" ≡ codes "CTT" = sym beg ∙ (by_rule r a first).segment ∙ sym (by_rule q b second).segment ∙ ctt in
      absurd (differ same)
    where
      differ : codes "BEG" ≡ codes "CTT" → ⊥
      differ same = let no : true ≡ false = ap (λ (t : List ℕ). bytes_eq (codes "BEG") t) same in cc no

  places_rise : AllPairs (λ (e f : ElementNote). e.place < f.place) (element_notes d part)
  unfolding element_notes
  places_rise = pairs_of (λ (e f : ElementNote). e.place < f.place) (filter_map (note_of_element d part) rules_of_elements) (picked_ordered (note_of_element d part) (λ (e f : ElementNote). e.place < f.place) rules_of_elements (
    (later _ _ (omega arith), (later _ _ (omega arith), (later _ _ (omega arith), (other _ _ refl refl, tt)))),
    (
      (later _ _ (omega arith), (later _ _ (omega arith), (other _ _ refl refl, tt))),
      (
        (later _ _ (omega arith), (other _ _ refl refl, tt)),
        (
          (other _ _ refl refl, tt),
          (
            tt,
            tt,
          ),
        ),
      ),
    ),
  ))

-- The notes on a segment.

module _ (d : Delims) (p : ℕ) (part : List ℕ) where
  both : (a b : Bool) → (a && b) ≡ true → (a ≡ true) × (b ≡ true)
  both true true is = (refl, refl)
  both true false is = absurd (let no : ⊥ = cc is in no)
  both false b is = absurd (let no : ⊥ = cc is in no)

  at_two : (b : Bool) → (p == 2 && b) ≡ true → p ≡ 2
  at_two b is = let two = (both (p == 2) b is).0 in grind (arith, nat_tests, two)

  abbrev rows_at : List (Bool × SegmentNote)
  rows_at =
      let name = identifier_of d part in
      let is_beg = bytes_eq name (codes "BEG") in
      let faults = element_notes d part in
      (not (name_is_identifier name), note_on_segment name p Unrecognized [])
      ∷ (p == 2 && not is_beg, note_on_segment (codes "BEG") 2 Missing [])
      ∷ (is_beg && nat_lt 2 p, note_on_segment name p ExceedsMaximumUse [])
      ∷ ((is_beg && p == 2 || bytes_eq name (codes "CTT")) && not (length faults == 0), note_on_segment name p ElementErrors faults)
      ∷ []

  at_rise : Ordered IsNoteBefore (notes_at d p part)
  unfolding notes_at
  at_rise = held_ordered IsNoteBefore rows_at (
    λ first. (λ second. inr ((at_two _ second), inl (omega arith)), (λ third. inr (refl, inl (omega arith)), (λ fourth. inr (refl, inl (omega arith)), tt))),
    (
      λ second. (λ third. inr ((sym (at_two _ second)), inl (omega arith)), (λ fourth. inr ((sym (at_two _ second)), inl (omega arith)), tt)),
      (
        λ third. (λ fourth. inr (refl, inl (omega arith)), tt),
        (
          λ fourth. tt,
          tt,
        ),
      ),
    ),
  )

  -- each of them is on that segment, and its element notes rise
  at_position : AllByRecursion (λ (n : SegmentNote). n.position ≡ p) (notes_at d p part)
  unfolding notes_at
  at_position = held_have (λ (n : SegmentNote). n.position ≡ p) rows_at (λ first. refl, (λ second. sym (at_two _ second), (λ third. refl, (λ fourth. refl, tt))))

  none_rise : (name : List ℕ) → AllPairs (λ (e f : ElementNote). e.place < f.place) []
  none_rise name = λ i j d before within. absurd (omega arith)

  at_elements : AllByRecursion ElementsRise (notes_at d p part)
  unfolding notes_at
  at_elements = held_have ElementsRise rows_at (λ first. none_rise [], (λ second. none_rise [], (λ third. none_rise [], (λ fourth. places_rise d part, tt))))

-- The notes on all segments.

module _ (d : Delims) where
  abbrev Between : ℕ → ℕ → SegmentNote → Type 0
  Between low high n = (low ≤ n.position) × (n.position < high)

  from_between : (body : List (List ℕ)) (p : ℕ) → AllByRecursion (Between p (p + length body)) (notes_from d p body)
  from_between [] p = tt
  from_between (part ∷ body) p =
      all_append (Between p (p + length (part ∷ body))) (notes_at d p part) (notes_from d (p + 1) body)
      (all_weaker _ (Between p (p + length (part ∷ body))) (notes_at d p part) (λ n at. (omega (arith, at), omega (arith, at))) (at_position d p part))
      (all_weaker _ (Between p (p + length (part ∷ body))) (notes_from d (p + 1) body) (λ n in'. let low = in'.0 in let high = in'.1 in (omega (arith, low), omega (arith, high))) (from_between body (p + 1)))

  from_elements : (body : List (List ℕ)) (p : ℕ) → AllByRecursion ElementsRise (notes_from d p body)
  from_elements [] p = tt
  from_elements (part ∷ body) p = all_append ElementsRise (notes_at d p part) (notes_from d (p + 1) body) (at_elements d p part) (from_elements body (p + 1))

  from_rise : (body : List (List ℕ)) (p : ℕ) → Ordered IsNoteBefore (notes_from d p body)
  from_rise [] p = tt
  from_rise (part ∷ body) p = ordered_both IsNoteBefore (notes_at d p part) (notes_from d (p + 1) body) (at_rise d p part) (from_rise body (p + 1))
      (all_weaker _ (λ (n : SegmentNote). AllByRecursion (IsNoteBefore n) (notes_from d (p + 1) body)) (notes_at d p part)
      (λ n at. all_weaker _ (IsNoteBefore n) (notes_from d (p + 1) body) (λ m in'. let low = in'.0 in inl (omega (arith, low, at))) (from_between body (p + 1))) (at_position d p part))

  module _ (body : List (List ℕ)) where
    abbrev rows_at_end : List (Bool × SegmentNote)
    rows_at_end =
        (length body == 0, note_on_segment (codes "BEG") 2 Missing [])
        ∷ (not (has_po1 d body), note_on_segment (codes "PO1") (2 + length body) Missing [])
        ∷ []

    none_of : (length body == 0) ≡ true → length body ≡ 0
    none_of is = grind (arith, nat_tests, is)

    end_rises : Ordered IsNoteBefore (notes_at_end d body)
    unfolding notes_at_end
    end_rises = held_ordered IsNoteBefore rows_at_end (λ first. (λ second. let none = none_of first in inr (omega (arith, none), inr (refl, refl)), tt), (λ second. tt, tt))

    none_here : AllPairs (λ (e f : ElementNote). e.place < f.place) []
    none_here = λ i j d before within. absurd (omega arith)

    end_elements : AllByRecursion ElementsRise (notes_at_end d body)
    unfolding notes_at_end
    end_elements = held_have ElementsRise rows_at_end (λ first. none_here, (λ second. none_here, tt))

    end_behind : (n : SegmentNote) → Between 2 (2 + length body) n → AllByRecursion (IsNoteBefore n) (notes_at_end d body)
    unfolding notes_at_end
    end_behind n in' = let low = in'.0 in let high = in'.1 in
        held_have (IsNoteBefore n) rows_at_end (λ first. let none = none_of first in absurd (omega (arith, none, low, high)), (λ second. inl (omega (arith, high)), tt))

    all_rise : Ordered IsNoteBefore (segment_notes d body)
    unfolding segment_notes
    all_rise = ordered_both IsNoteBefore (notes_from d 2 body) (notes_at_end d body) (from_rise body 2) end_rises
        (all_weaker _ (λ (n : SegmentNote). AllByRecursion (IsNoteBefore n) (notes_at_end d body)) (notes_from d 2 body) end_behind (from_between body 2))

    all_elements : AllByRecursion ElementsRise (segment_notes d body)
    unfolding segment_notes
    all_elements = all_append ElementsRise (notes_from d 2 body) (notes_at_end d body) (from_elements body 2) end_elements

pub notes_do_rise : NotesRise
unfolding notes_of_set
notes_do_rise d agreed s = by (agreed && bytes_eq s.set (codes "850"))
  where
    by : (b : Bool) → AreRisingNotes (if b then segment_notes d (body_of s) else [])
    by true = record { segments = pairs_of IsNoteBefore (segment_notes d (body_of s)) (all_rise d (body_of s)); elements = all_of ElementsRise (segment_notes d (body_of s)) (all_elements d (body_of s)) }
    by false = record { segments = pairs_of IsNoteBefore [] tt; elements = all_of ElementsRise [] tt }
