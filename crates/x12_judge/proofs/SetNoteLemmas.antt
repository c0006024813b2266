-- The notes of a transaction set, kept segment by segment.
use Rattle.std.proofs.Common.{◌≡◌, ℕ, ◌+◌, ◌==◌, Bool, true, false, ◌||◌, not, List, [], ◌∷◌, ◌++◌, length, take, suc, flat_map, refl, ap, sym, ◌∙◌, arith}
use Rattle.std.proofs.lemmas.Bool.Decides.{nat_tests}
use Rattle.std.proofs.lemmas.Grind.{flat_map-append}
use Rattle.x12_envelopes.specs.Row.{held_of_rows}
use Rattle.x12_judge.specs.declared.verdict.SegmentCode.{SegmentCode}
use Rattle.x12_judge.specs.Segment.{SegmentNote, note_on_segment}
use Rattle.x12_judge.specs.Set.{reported, segment}
use Rattle.x12_judge.specs.Keeping.{KeptNotes, keeping}
use Rattle.x12_judge.proofs.KeptNoteLemmas.{keeping_twice}

none_of : (n : ℕ) → (suc n == 0) ≡ false
none_of n = grind (arith, nat_tests)

-- the notes of one segment more
pub one_segment :
    (kept more all : KeptNotes) (first rest : List SegmentNote)
    → more ≡ keeping kept (flat_map reported first)
    → keeping kept (flat_map reported (first ++ rest)) ≡ all
    → keeping more (flat_map reported rest) ≡ all
one_segment kept more all first rest step so_far =
    let front = flat_map reported first in
    let back = flat_map reported rest in
    ap (λ ks. keeping ks back) step ∙ keeping_twice kept front back
    ∙ ap (keeping kept) (sym (flat_map-append reported first rest))
    ∙ so_far

-- a test that held before, or holds of one more
pub one_test :
    (old new here rest all : Bool) → new ≡ (old || here) → (old || (here || rest)) ≡ all → (new || rest) ≡ all
one_test true new here rest all e so_far = ap (λ b. b || rest) e ∙ so_far
one_test false new here rest all e so_far = ap (λ b. b || rest) e ∙ so_far

-- the rows at the end position are the notes there
pub end_rows :
    (beg po1 : List ℕ) (code : SegmentCode) (position : ℕ) (no_beg no_po1 : Bool)
    → held_of_rows ((no_beg, segment (take 3 beg) 2 code) ∷ (no_po1, segment (take 3 po1) position code) ∷ [])
    ≡ flat_map reported (held_of_rows ((no_beg, note_on_segment beg 2 code []) ∷ (no_po1, note_on_segment po1 position code []) ∷ []))
end_rows beg po1 code position true true = refl
end_rows beg po1 code position true false = refl
end_rows beg po1 code position false true = refl
end_rows beg po1 code position false false = refl

two_more : (n : ℕ) → (2 + n == 2) ≡ (n == 0)
two_more n = grind (arith, nat_tests)

-- the rows at the end position, by what was found of the segments
pub rows_at_end :
    (beg po1 : List ℕ) (code : SegmentCode) (position n : ℕ) (found has : Bool)
    → position ≡ 2 + n → found ≡ has
    → held_of_rows ((position == 2, segment (take 3 beg) 2 code) ∷ (not found, segment (take 3 po1) position code) ∷ [])
    ≡ flat_map reported (held_of_rows ((n == 0, note_on_segment beg 2 code []) ∷ (not has, note_on_segment po1 (2 + n) code []) ∷ []))
rows_at_end beg po1 code position n found has e f =
    (λ i. held_of_rows ((e i == 2, segment (take 3 beg) 2 code) ∷ (not (f i), segment (take 3 po1) (e i) code) ∷ []))
    ∙ ap (λ b. held_of_rows ((b, segment (take 3 beg) 2 code) ∷ (not has, segment (take 3 po1) (2 + n) code) ∷ []))
    (two_more n)
    ∙ end_rows beg po1 code (2 + n) (n == 0) (not has)

-- a set is noted where a note is kept
pub kept_some : (notes : List SegmentNote) → (length (take 8 (flat_map reported notes)) == 0) ≡ (length notes == 0)
kept_some [] = refl
kept_some (n ∷ notes) = none_of _ ∙ sym (none_of (length notes))
