-- The last element of a segment.
use Rattle.std.proofs.Common.{rules, ◌≡◌, ◌==◌, ℕ, ◌-◌, Bool, not, List, [], ◌∷◌, length, map, Some, slice_get, refl, sym, ap, ◌∙◌, arith}
use Rattle.x12_envelopes.specs.Fitting.{is_filled, segment_ends_filled}

module _ {A : Type 0} (items : A → List ℕ) where
  same_some : (a b : A) → Some a ≡ Some b → a ≡ b
  same_some a b is = cc

  last_more : (a b : A) (more : List A) → slice_get (a ∷ b ∷ more) (length (a ∷ b ∷ more) - 1) ≡ slice_get (b ∷ more) (length (b ∷ more) - 1)
  last_more a b more = search (rules, arith)

  pub ends_as_last : (elements : List A) (last : A) → slice_get elements (length elements - 1) ≡ Some last → segment_ends_filled (map items elements) ≡ is_filled (items last)
  ends_as_last [] last is = absurd cc
  ends_as_last (a ∷ []) last is = ap (λ e. is_filled (items e)) (same_some a last is)
  ends_as_last (a ∷ b ∷ more) last is = ends_as_last (b ∷ more) last (sym (last_more a b more) ∙ is)

pub filled_unless_empty : (bytes : List ℕ) (empty : Bool) → empty ≡ (length bytes == 0) → not empty ≡ is_filled bytes
filled_unless_empty [] empty is = rw is refl
filled_unless_empty (b ∷ bytes) empty is = rw is (search (rules, arith))
