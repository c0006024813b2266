-- Orders as transaction sets, one after the other.
use Rattle.std.specs.Prelude.{◌≡◌, ℕ, ◌+◌, ◌<◌, List, [], ◌∷◌, ◌++◌, map, take, length}
use Rattle.std.specs.List.{enumerate_from}
use mathlib.Core.Path.{sym, ap, ap₂, ◌∙◌}
use native.Mathlib.Omega.{arith}
use Rattle.std.proofs.Common.{get_or}
use Rattle.std.proofs.lemmas.List.{length-map, length-take, map-append, take_more}
use Rattle.x12_numbers.proofs.Shelf.{enumerate_push}

-- one more is numbered by its place
module _ {B O W : Type 0} (view : B → O) (set : ℕ × O → W) where
  pub numbered_more : (bs : List B) (i place : ℕ) (b : B) → i < length bs → b ≡ get_or bs i b → place ≡ i + 1
      → map set (enumerate_from 1 (map view (take (i + 1) bs))) ≡ map set (enumerate_from 1 (map view (take i bs))) ++ set (place, view b) ∷ []
  numbered_more bs i place b below is at =
      let short = length-take i bs in
      let mapped = length-map (take i bs) view in
      let here : 1 + length (map view (take i bs)) ≡ place = omega arith in
      ap (λ l. map set (enumerate_from 1 (map view l))) (take_more bs i b below ∙ ap (λ z. take i bs ++ z ∷ []) (sym is))
      ∙ ap (λ l. map set (enumerate_from 1 l)) (map-append view (take i bs) (b ∷ []))
      ∙ ap (map set) (enumerate_push 1 (map view (take i bs)) (view b))
      ∙ map-append set (enumerate_from 1 (map view (take i bs))) ((1 + length (map view (take i bs)), view b) ∷ [])
      ∙ ap (λ k. map set (enumerate_from 1 (map view (take i bs))) ++ set (k, view b) ∷ []) here

-- one order more is written as the set at its place
module _ {S B O W : Type 0} (written : S → W) (view : B → O) (set : ℕ × O → W) where
  pub one_more : (ss new : List S) (bs : List B) (i place : ℕ) (b : B) (s : S) → i < length bs → b ≡ get_or bs i b → place ≡ i + 1 → new ≡ ss ++ s ∷ []
      → written s ≡ set (place, view b) → map written ss ≡ map set (enumerate_from 1 (map view (take i bs)))
      → map written new ≡ map set (enumerate_from 1 (map view (take (i + 1) bs)))
  one_more ss new bs i place b s below is at pushed same so_far =
      ap (map written) pushed ∙ map-append written ss (s ∷ [])
      ∙ ap₂ (λ a z. a ++ z ∷ []) so_far same
      ∙ sym (numbered_more view set bs i place b below is at)
