-- Written segments, cut again.
use Rattle.std.proofs.Common.{rules, ◌≡◌, ℕ, ◌+◌, ◌≤◌, Bool, true, false, not, ◌||◌, ◌==◌, nat_le, List, [], ◌∷◌, ◌++◌, length, map, None, position, refl, ap, ap₂, ◌∙◌, ◌⊎◌, inl, inr, arith, append_assoc}
use Rattle.std.specs.List.{list_all, slice_split, prefix_len, All}
use Rattle.std.proofs.lemmas.Bool.{eqb-true, eq-eqb, leb-true, le-ltb, and_parts, not-true}
use Rattle.std.proofs.lemmas.List.Splits.{slice_split_at}
use Rattle.std.proofs.lemmas.Grind.{common_steps}
use Rattle.x12_envelopes.specs.declared.delimiters.Delims.{Delims}
use Rattle.x12_envelopes.specs.Byte.{byte_is_line_end}
use Rattle.x12_envelopes.specs.Delimiters.{bytes_are_delimiters, is_control}
use Rattle.x12_envelopes.specs.Segment.{Segment, PlacedSegment, segment_text, text_of, place_piece, place_pieces, segments_from}
use Rattle.x12_envelopes.specs.Fitting.{byte_is_writable, element_is_writable, segment_is_writable, joined}
use Rattle.x12_envelopes.proofs.JoinedLemmas.{text_is, all_joined, none}

-- what is known of delimiters that can delimit
pub record Apart (d : Delims) : Type 0 where
  pub ended : (d.element == d.terminator) ≡ false
  pub element : byte_is_line_end d.element ≡ false
  pub component : byte_is_line_end d.component ≡ false

pub apart : (d : Delims) → bytes_are_delimiters d ≡ true → Apart d
unfolding bytes_are_delimiters
apart d good =
    let a = and_parts _ _ good in
    let b = and_parts _ _ a.0 in
    let c = and_parts _ _ b.0 in
    let e = and_parts _ _ c.0 in
    record { ended = not-true _ e.1; element = not-true _ b.1; component = not-true _ a.1 }

-- a byte that an element may hold is one from 0x20 on, or the component separator
printable : (d : Delims) (b : ℕ) → byte_is_writable d b ≡ true → (nat_le 32 b ≡ true) ⊎ ((b == d.component) ≡ true)
printable d b held = or_parts _ _ (and_parts _ _ held).1
  where
    or_parts : (x y : Bool) → (x || y) ≡ true → (x ≡ true) ⊎ (y ≡ true)
    or_parts true y is = inl refl
    or_parts false y is = inr is

no_line_end : (b : ℕ) → 32 ≤ b → byte_is_line_end b ≡ false
no_line_end b high = grind (arith, common_steps)

pub writable_no_end : (d : Delims) (b : ℕ) → Apart d → byte_is_writable d b ≡ true → not (byte_is_line_end b) ≡ true
writable_no_end d b a held =
    elim (printable d b held) [
      | inl high ↦ ap not (no_line_end b (leb-true 32 b high))
      | inr is ↦ ap not (ap byte_is_line_end (eqb-true b d.component is) ∙ a.component)
    ]

writable_no_control : (d : Delims) (b : ℕ) → byte_is_writable d b ≡ true → not (is_control d b) ≡ true
writable_no_control d b held =
    elim (printable d b held) [
      | inl high ↦ rw (le-ltb b 32 (leb-true 32 b high)) refl
      | inr is ↦ rw is (search rules)
    ]

no_terminator : (d : Delims) (s : Segment) → bytes_are_delimiters d ≡ true → list_all (element_is_writable d) s ≡ true → All (λ b. (b == d.terminator) ≡ false) (joined d s)
no_terminator d s good held =
    none (λ b. b == d.terminator) (joined d s) (all_joined d (λ b. not (b == d.terminator)) (ap not (apart d good).ended) (λ b w. (and_parts _ _ (and_parts _ _ w).0).1) s held)

pub starts : (q : ℕ → Bool) (bytes : List ℕ) → list_all (λ b. not (q b)) bytes ≡ true → prefix_len q bytes ≡ 0
starts q [] held = refl
starts q (b ∷ bytes) held = rw (not-true (q b) (and_parts (not (q b)) _ held).0) refl

pub no_ends : (d : Delims) (s : Segment) → bytes_are_delimiters d ≡ true → list_all (element_is_writable d) s ≡ true → prefix_len byte_is_line_end (joined d s) ≡ 0
no_ends d s good held =
    starts byte_is_line_end (joined d s) (all_joined d (λ b. not (byte_is_line_end b)) (ap not (apart d good).element) (λ b w. writable_no_end d b (apart d good) w) s held)

passed_over : (q : ℕ → Bool) (bytes : List ℕ) → list_all (λ b. not (q b)) bytes ≡ true → prefix_len (λ b. not (q b)) bytes ≡ length bytes
passed_over q [] held = refl
passed_over q (b ∷ bytes) held =
    let h = and_parts (not (q b)) (list_all (λ b. not (q b)) bytes) held in
    rw h.0 (omega (arith, passed_over q bytes h.1))

nowhere : (q : ℕ → Bool) (bytes : List ℕ) → list_all (λ b. not (q b)) bytes ≡ true → position q bytes ≡ None
nowhere q bytes held = rw (passed_over q bytes held, le-ltb (length bytes) (length bytes) (omega arith)) refl

separator_no_control : (d : Delims) → not (is_control d d.element) ≡ true
separator_no_control d = rw (eq-eqb d.element d.element refl) (search rules)

pub no_control : (d : Delims) (s : Segment) → list_all (element_is_writable d) s ≡ true → position (is_control d) (joined d s) ≡ None
no_control d s held =
    nowhere (is_control d) (joined d s) (all_joined d (λ b. not (is_control d b)) (separator_no_control d) (λ b w. writable_no_control d b w) s held)

-- a written segment in front is the first piece
split_more : (d : Delims) (s : Segment) (more : List ℕ) → bytes_are_delimiters d ≡ true → segment_is_writable d s ≡ true → slice_split (λ b. b == d.terminator) (segment_text d s ++ more) ≡ joined d s ∷ slice_split (λ b. b == d.terminator) more
unfolding segment_is_writable
split_more d [] more good held = absurd cc
split_more d (e ∷ es) more good held =
    ap (slice_split (λ b. b == d.terminator)) (ap (λ xs. xs ++ more) (text_is d e es) ∙ append_assoc (joined d (e ∷ es)) (d.terminator ∷ []) more)
    ∙ slice_split_at (λ b. b == d.terminator) (joined d (e ∷ es)) d.terminator more (no_terminator d (e ∷ es) good (and_parts _ _ held).0) (eq-eqb d.terminator d.terminator refl)

pub pieces_text : (d : Delims) (ss : List Segment) → bytes_are_delimiters d ≡ true → list_all (segment_is_writable d) ss ≡ true → slice_split (λ b. b == d.terminator) (text_of d ss) ≡ map (joined d) ss ++ [] ∷ []
pieces_text d [] good held = refl
pieces_text d (s ∷ ss) good held =
    let h = and_parts _ _ held in
    split_more d s (text_of d ss) good h.0 ∙ ap (λ xs. joined d s ∷ xs) (pieces_text d ss good h.1)

-- written segments where they stand
abbrev pub placed : Delims → ℕ → List Segment → List PlacedSegment
placed d at [] = record { at = at; bytes = [] } ∷ []
placed d at (s ∷ ss) = record { at = at; bytes = joined d s } ∷ placed d (at + length (joined d s) + 1) ss

place_pieces_are : (d : Delims) (at : ℕ) (ss : List Segment) → bytes_are_delimiters d ≡ true → list_all (segment_is_writable d) ss ≡ true → place_pieces at (map (joined d) ss ++ [] ∷ []) ≡ placed d at ss
unfolding segment_is_writable
place_pieces_are d at [] good held = ap (λ n. record { at = n; bytes = [] } ∷ []) (omega arith)
place_pieces_are d at (s ∷ ss) good held =
    let h = and_parts _ _ held in
    let ends = no_ends d s good (and_parts _ _ h.0).0 in
    ap₂ ◌∷◌ (place_is at (joined d s) ends) (place_pieces_are d (at + length (joined d s) + 1) ss good h.1)
  where
    place_is : (at : ℕ) (piece : List ℕ) → prefix_len byte_is_line_end piece ≡ 0 → place_piece at piece ≡ record { at = at; bytes = piece }
    place_is at piece none = rw none (ap (λ n. record { at = n; bytes = piece }) (omega arith))

pub segments_placed : (d : Delims) (at : ℕ) (ss : List Segment) → bytes_are_delimiters d ≡ true → list_all (segment_is_writable d) ss ≡ true → segments_from d at (text_of d ss) ≡ placed d at ss
unfolding segments_from
segments_placed d at ss good held = ap (place_pieces at) (pieces_text d ss good held) ∙ place_pieces_are d at ss good held
