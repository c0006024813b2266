-- The elements of a segment, cut off its bytes one after the other.
use Rattle.std.proofs.Common.{◌≡◌, ℕ, zero, suc, ◌+◌, Bool, ◌==◌, List, [], ◌∷◌, drop, unwrap_or, slice_get, refl, sym, ap, ◌∙◌, arith, inl, inr, one-add}
use Rattle.std.specs.List.{position_or_len, slice_split, onto_first}
use Rattle.std.proofs.lemmas.Bool.{cases_Bool}
use Rattle.x12_envelopes.specs.declared.delimiters.Delims.{Delims}
use Rattle.x12_envelopes.specs.Segment.{element_of}
use Rattle.x12_envelopes.proofs.ElementLemmas.{element_is}

-- one of the elements by its place: empty where it is missing
abbrev nth : List (List ℕ) → ℕ → List ℕ
nth xs n = unwrap_or (slice_get xs n) []

behind_onto : (x : ℕ) (parts : List (List ℕ)) (n : ℕ) → nth (onto_first x parts) (suc n) ≡ nth parts (suc n)
behind_onto x [] n = refl
behind_onto x (part ∷ parts) n = refl

none_behind : (p : ℕ → Bool) (n : ℕ) → nth (slice_split p []) n ≡ nth (slice_split p []) (suc n)
none_behind p zero = refl
none_behind p (suc n) = refl

-- what stands behind the first separator has the elements behind the first
behind_first : (p : ℕ → Bool) (xs : List ℕ) (n : ℕ) → nth (slice_split p (drop 1 (drop (position_or_len p xs) xs))) n ≡ nth (slice_split p xs) (suc n)
behind_first p [] n = none_behind p n
behind_first p (x ∷ xs) n = elim (cases_Bool (p x)) [
  | inl ends ↦ rw ends refl
  | inr goes ↦ rw (goes, one-add) (behind_first p xs n ∙ sym (behind_onto x (slice_split p xs) n))
]

-- the elements behind the first one, each a place further
pub cut_off : (d : Delims) (bytes behind : List ℕ) → drop 1 (drop (position_or_len (λ b. b == d.element) bytes) bytes) ≡ behind → (n : ℕ) → element_of d behind n ≡ element_of d bytes (n + 1)
cut_off d bytes behind is n =
    let p = λ (b : ℕ). b == d.element in
    let next : suc n ≡ n + 1 = omega arith in
    ap (λ l. element_of d l n) (sym is)
    ∙ sym (element_is d (drop 1 (drop (position_or_len p bytes) bytes)) n)
    ∙ behind_first p bytes n
    ∙ ap (nth (slice_split p bytes)) next
    ∙ element_is d bytes (n + 1)
