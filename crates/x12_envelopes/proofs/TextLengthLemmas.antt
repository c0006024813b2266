-- The length of a written segment.
use Rattle.std.proofs.Common.{◌≡◌, ◌≤◌, ℕ, ◌+◌, List, [], ◌∷◌, ◌++◌, length, max, flat_map, map, take, refl, sym, ap, ◌∙◌, arith, length-append}
use Rattle.std.specs.List.{sum_by}
use Rattle.std.proofs.lemmas.List.{take_all}
use Rattle.std.proofs.lemmas.List.Sums.{sum_by-cons}
use Rattle.x12_envelopes.specs.declared.delimiters.Delims.{Delims}
use Rattle.x12_envelopes.specs.Segment.{segment_text}

module _ {A : Type 0} (items : A → List ℕ) where
  one_more : (e : A) (es : List A) → sum_by (λ e. length (items e) + 1) (e ∷ es) ≡ length (items e) + 1 + sum_by (λ e. length (items e) + 1) es
  one_more e es = sum_by-cons (λ (e : A). length (items e) + 1) e es

  elements_length : (d : Delims) (es : List A) → length (flat_map (λ e. d.element ∷ e) (map items es)) ≡ sum_by (λ e. length (items e) + 1) es
  elements_length d [] = refl
  elements_length d (e ∷ es) =
      length-append (d.element ∷ items e) (flat_map (λ e. d.element ∷ e) (map items es)) ∙ omega (arith, elements_length d es, one_more e es)

  pub text_length : (d : Delims) (es : List A) → length (segment_text d (map items es)) ≡ max (sum_by (λ e. length (items e) + 1) es) 1
  unfolding segment_text
  text_length d [] = refl
  text_length d (e ∷ es) =
      length-append (items e ++ flat_map (λ e. d.element ∷ e) (map items es)) (d.terminator ∷ [])
      ∙ omega (arith, length-append (items e) (flat_map (λ e. d.element ∷ e) (map items es)), elements_length d es, one_more e es)

  pub whole_length : (d : Delims) (es : List A) (n : ℕ) → length es ≤ n → length (segment_text d (map items es)) ≡ max (sum_by (λ e. length (items e) + 1) (take n es)) 1
  whole_length d es n is = text_length d es ∙ ap (λ (xs : List A). max (sum_by (λ e. length (items e) + 1) xs) 1) (sym (take_all n es is))
