-- The next segment of an interchange, and the segments that bytes are.
use Rattle.std.proofs.Common.{◌≡◌, ℕ, suc, ◌+◌, ◌-◌, ◌<◌, ◌≤◌, Bool, false, ◌==◌, List, [], ◌∷◌, ◌++◌, length, take, drop, slice_range, refl, sym, ap, ap₂, subst, ◌∙◌, arith, inl, inr, append-nil, one-add}
use Rattle.std.specs.List.{All, prefix_len}
use Rattle.std.proofs.Math.Seq.{take-append-add, drop-append-add}
use Rattle.std.proofs.lemmas.Bool.{cases_Bool}
use Rattle.std.proofs.lemmas.List.{append_assoc, drop-drop, drop-append-le, length-drop, length-append, length-take-le}
use Rattle.std.proofs.lemmas.List.Folds.{drop_split}
use Rattle.std.proofs.lemmas.List.Elements.{All-drop}
use Rattle.std.proofs.lemmas.List.Sums.{prefix_len-le-length}
use Rattle.std.proofs.lemmas.List.Splits.{length-slice_split}
use Rattle.x12_envelopes.specs.declared.delimiters.Delims.{Delims}
use Rattle.x12_envelopes.specs.Byte.{byte_is_line_end}
use Rattle.x12_envelopes.specs.Reading.{IsCut, AreParts, IsNext}
use Rattle.x12_envelopes.specs.Segment.{PlacedSegment, place_piece, place_pieces, segments_from, behind_line_ends, parts_of}
use Rattle.x12_envelopes.specs.Outline.{offset_behind}
use Rattle.x12_envelopes.proofs.CuttingLemmas.{pieces, cut_split, parts_of_cut}

-- behind the elements that pass, the first one does not
no_more : (p : ℕ → Bool) (xs : List ℕ) → prefix_len p (drop (prefix_len p xs) xs) ≡ 0
no_more p [] = refl
no_more p (x ∷ xs) = elim (cases_Bool (p x)) [
  | inl passes ↦ rw (passes, one-add) (no_more p xs)
  | inr fails ↦ rw (fails, fails)
]

-- bytes with one terminator, at their end, are one segment
one_part : (d : Delims) (text : List ℕ) → All (λ b. (b == d.terminator) ≡ false) text → AreParts d (text ++ d.terminator ∷ []) (behind_line_ends text ∷ [])
one_part d text clean = record {
  whole = λ more. parts_of_cut d ((text ++ d.terminator ∷ []) ++ more) text more (record { clean = clean; whole = append_assoc text (d.terminator ∷ []) more });
}

pub AreParts-none : (d : Delims) → AreParts d [] []
AreParts-none d = record { whole = λ more. refl }

pub AreParts-append : (d : Delims) (a b : List ℕ) (ps qs : List (List ℕ)) → AreParts d a ps → AreParts d b qs → AreParts d (a ++ b) (ps ++ qs)
AreParts-append d a b ps qs first second = record {
  whole = λ more. ap (parts_of d) (append_assoc a b more) ∙ first.whole (b ++ more) ∙ ap (λ l. ps ++ l) (second.whole more) ∙ sym (append_assoc ps qs (parts_of d more));
}

pub AreParts-parts : (d : Delims) (a : List ℕ) (ps : List (List ℕ)) → AreParts d a ps → parts_of d a ≡ ps
unfolding parts_of
AreParts-parts d a ps are =
    ap (parts_of d) (sym (append-nil a)) ∙ are.whole [] ∙ append-nil ps

pub slice_join : (input : List ℕ) (a b e : ℕ) → a ≤ b → b ≤ e → b ≤ length input → slice_range input a b ++ slice_range input b e ≡ slice_range input a e
slice_join input a b e low high fits =
    let front = slice_range input a b in
    let long : length front ≡ b - a = length-take-le (b - a) (drop a input) (omega (arith, length-drop a input)) in
    let count : e - a ≡ length front + (e - b) = omega arith in
    sym (ap (λ k. take k (drop a input)) count ∙ ap (take (length front + (e - b))) (drop_split input a b low) ∙ take-append-add front (drop b input) (e - b))

pub length-place : (at : ℕ) (ps : List (List ℕ)) → length (place_pieces at ps) ≡ length ps
length-place at [] = refl
length-place at (piece ∷ ps) = ap suc (length-place (at + length piece + 1) ps)

pub segments_more : (d : Delims) (at : ℕ) (bytes : List ℕ) → 0 < length (segments_from d at bytes)
unfolding segments_from
segments_more d at bytes =
    omega (arith, length-place at (pieces d bytes), length-slice_split (λ b. b == d.terminator) bytes)

pub next_segment : (d : Delims) (input : List ℕ) (at : ℕ) (piece back : List ℕ) → at ≤ length input → IsCut d.terminator (drop at input) piece back → IsNext d input at (place_piece at piece)
unfolding segments_from
next_segment d input at piece back fits cut =
    let skipped = prefix_len byte_is_line_end piece in
    let q = behind_line_ends piece in
    let next = at + (length piece + 1) in
    let few = prefix_len-le-length byte_is_line_end piece in
    let ends : offset_behind (place_piece at piece) ≡ next = omega (arith, length-drop skipped piece) in
    let tail : drop next input ≡ back =
    sym (drop-drop (length piece + 1) at input) ∙ ap (drop (length piece + 1)) cut.whole ∙ drop-append-add piece (d.terminator ∷ back) 1 in
    let rest : segments_from d at (drop at input) ≡ place_piece at piece ∷ segments_from d (at + length piece + 1) back =
    ap (place_pieces at) (cut_split d.terminator (drop at input) piece back cut) in
    let same_back : back ≡ drop (offset_behind (place_piece at piece)) input = sym tail ∙ ap (λ n. drop n input) (sym ends) in
    let same_place : at + length piece + 1 ≡ offset_behind (place_piece at piece) = omega arith in
    let long : length (drop at input) ≡ length piece + (length back + 1) = ap length cut.whole ∙ length-append piece (d.terminator ∷ back) ∙ omega arith in
    let text : slice_range input at (offset_behind (place_piece at piece)) ≡ piece ++ d.terminator ∷ [] =
    ap (λ k. take k (drop at input)) (omega arith) ∙ ap (take (length piece + 1)) cut.whole ∙ take-append-add piece (d.terminator ∷ back) 1 in
    let from : drop (at + skipped) input ≡ q ++ d.terminator ∷ back =
    sym (drop-drop skipped at input) ∙ ap (drop skipped) cut.whole ∙ drop-append-le skipped piece (d.terminator ∷ back) few in
    let own : slice_range input (at + skipped) (offset_behind (place_piece at piece)) ≡ q ++ d.terminator ∷ [] =
    ap (λ k. take k (drop (at + skipped) input)) (omega arith) ∙ ap (take (length q + 1)) from ∙ take-append-add q (d.terminator ∷ back) 1 in
    let bare : behind_line_ends q ≡ q = ap (λ k. drop k q) (no_more byte_is_line_end piece) in
    record {
      rest = rest ∙ ap₂ (λ n b. place_piece at piece ∷ segments_from d n b) same_place same_back;
      low = omega arith;
      high = omega (arith, length-drop at input);
      text = subst (λ b. AreParts d b (q ∷ [])) (sym text) (one_part d piece cut.clean);
      own = subst (λ b. AreParts d b (q ∷ [])) (sym own) (subst (λ (l : List ℕ). AreParts d (q ++ d.terminator ∷ []) (l ∷ [])) bare (one_part d q (All-drop (λ b. (b == d.terminator) ≡ false) skipped piece cut.clean)));
    }

pub last_segment : (d : Delims) (at : ℕ) (bytes : List ℕ) → pieces d bytes ≡ bytes ∷ [] → segments_from d at bytes ≡ place_piece at bytes ∷ []
unfolding segments_from
last_segment d at bytes is = ap (place_pieces at) is

abbrev pub place : ℕ → List ℕ → PlacedSegment
place at bytes = record { at = at; bytes = bytes }

pub place_is : (at skipped : ℕ) (piece part : List ℕ) → skipped ≡ prefix_len byte_is_line_end piece → part ≡ drop skipped piece → place (at + skipped) part ≡ place_piece at piece
place_is at skipped piece part count is =
    ap₂ place (ap (λ n. at + n) count) (is ∙ ap (λ n. drop n piece) count)
