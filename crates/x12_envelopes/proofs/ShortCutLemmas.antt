-- Cutting bytes at their first separator, by its place.
use Rattle.std.proofs.Common.{◌≡◌, ℕ, ◌+◌, ◌<◌, Bool, List, [], ◌∷◌, length, take, drop, refl, sym, ap, ap₂, ◌∙◌, arith, inl, inr, one-add}
use Rattle.std.specs.List.{slice_split, position_or_len, onto_first}
use Rattle.std.proofs.lemmas.Bool.{cases_Bool}
use Rattle.std.proofs.lemmas.List.{drop-drop}
use Rattle.std.proofs.lemmas.List.Splits.{slice_split_first}

-- without a separator bytes are one piece
pub one_piece : (p : ℕ → Bool) (xs : List ℕ) → position_or_len p xs ≡ length xs → slice_split p xs ≡ xs ∷ []
one_piece p [] none = refl
one_piece p (x ∷ xs) none = elim (cases_Bool (p x)) [
  | inl ends ↦ absurd (omega (arith, rw ends at none))
  | inr goes ↦ rw goes (ap (onto_first x) (one_piece p xs (omega (arith, rw (goes, one-add) at none))))
]

-- with one they are what stands before the first, and what is cut of the rest
pub two_pieces : (p : ℕ → Bool) (xs front ended behind : List ℕ) (k : ℕ) → k ≡ position_or_len p xs → k < length xs → front ≡ take k xs → ended ≡ drop k xs → behind ≡ drop 1 ended → slice_split p xs ≡ front ∷ slice_split p behind
two_pieces p xs front ended behind k is within is_front is_ended is_behind =
    let n = position_or_len p xs in
    let behind_is : behind ≡ drop (n + 1) xs = is_behind ∙ ap (drop 1) (is_ended ∙ ap (λ m. drop m xs) is) ∙ drop-drop 1 n xs in
    slice_split_first p xs 0 (omega (arith, is, within))
    ∙ ap₂ (λ a b. a ∷ slice_split p b) (sym (is_front ∙ ap (λ m. take m xs) is)) (sym behind_is)
