-- Laws of the merge.
use Rattle.std.proofs.Common.{◌≡◌, ℕ, List, [], ◌∷◌, ◌++◌, Bool, true, false, if◌then◌else◌, nat_le, filter, map, Contains, refl, sym, ap, ◌∙◌, append_assoc}
use Rattle.x12_nodes.specs.Merging.{merged_by, merged_onto, stamp_itself}
use Rattle.x12_numbers.proofs.Shelf.{contains_head, contains_tail}

module _ {X : Type 0} (stamp : X → ℕ) where
  -- once the first list is done, the second is what is left
  pub merged-nil : (xs : List X) → merged_by stamp xs [] ≡ xs
  merged-nil [] = refl
  merged-nil (x ∷ xs) = refl

  -- what the merge keeps of those that a test takes: of the second list alone, where it takes none of the first
  pub none_of_first : (p : X → Bool) (xs ys : List X) → filter p xs ≡ [] → filter p (merged_by stamp xs ys) ≡ filter p ys
  none_of_first p [] ys none = refl
  none_of_first p (x ∷ xs) [] none = none
  none_of_first p (x ∷ xs) (y ∷ ys) none = by (nat_le (stamp x) (stamp y)) (p x) refl none (λ tail. none_of_first p xs (y ∷ ys) tail) (none_of_first p (x ∷ xs) ys none)
    where
      by : (t b : Bool) → p x ≡ b → (if b then x ∷ filter p xs else filter p xs) ≡ [] → (filter p xs ≡ [] → filter p (merged_by stamp xs (y ∷ ys)) ≡ filter p (y ∷ ys)) → filter p (merged_by stamp (x ∷ xs) ys) ≡ filter p ys
          → filter p (if t then x ∷ merged_by stamp xs (y ∷ ys) else y ∷ merged_by stamp (x ∷ xs) ys) ≡ filter p (y ∷ ys)
      by t true is none left right = absurd cc
      by true false is none left right = rw is (left none)
      by false false is none left right = ap (λ l. if p y then y ∷ l else l) right

  -- of the first list alone, where it takes none of the second
  pub none_of_second : (p : X → Bool) (xs ys : List X) → filter p ys ≡ [] → filter p (merged_by stamp xs ys) ≡ filter p xs
  none_of_second p [] ys none = none
  none_of_second p (x ∷ xs) [] none = refl
  none_of_second p (x ∷ xs) (y ∷ ys) none = by (nat_le (stamp x) (stamp y)) (p y) refl none (none_of_second p xs (y ∷ ys) none) (λ tail. none_of_second p (x ∷ xs) ys tail)
    where
      by : (t b : Bool) → p y ≡ b → (if b then y ∷ filter p ys else filter p ys) ≡ [] → filter p (merged_by stamp xs (y ∷ ys)) ≡ filter p xs → (filter p ys ≡ [] → filter p (merged_by stamp (x ∷ xs) ys) ≡ filter p (x ∷ xs))
          → filter p (if t then x ∷ merged_by stamp xs (y ∷ ys) else y ∷ merged_by stamp (x ∷ xs) ys) ≡ filter p (x ∷ xs)
      by t true is none left right = absurd cc
      by true false is none left right = ap (λ l. if p x then x ∷ l else l) left
      by false false is none left right = rw is (right none)

  -- of one list, where a test takes none of the others
  pub onto_none : (p : X → Bool) (acc : List X) (rest : List (List X)) → ((xs : List X) → Contains rest xs → filter p xs ≡ []) → filter p (merged_onto stamp acc rest) ≡ filter p acc
  onto_none p acc [] none = refl
  onto_none p acc (xs ∷ rest) none = onto_none p (merged_by stamp acc xs) rest (λ ys h. none ys (contains_tail ys xs rest h)) ∙ none_of_second p acc xs (none xs (contains_head xs rest))

-- what is merged may be mapped before or after
module _ {X : Type 0} (stamp : X → ℕ) where
  pub map_merged : (xs ys : List X) → map stamp (merged_by stamp xs ys) ≡ merged_by stamp_itself (map stamp xs) (map stamp ys)
  map_merged [] ys = refl
  map_merged (x ∷ xs) [] = refl
  map_merged (x ∷ xs) (y ∷ ys) = by (nat_le (stamp x) (stamp y)) (map_merged xs (y ∷ ys)) (map_merged (x ∷ xs) ys)
    where
      by : (t : Bool) → map stamp (merged_by stamp xs (y ∷ ys)) ≡ merged_by stamp_itself (map stamp xs) (map stamp (y ∷ ys)) → map stamp (merged_by stamp (x ∷ xs) ys) ≡ merged_by stamp_itself (map stamp (x ∷ xs)) (map stamp ys)
          → map stamp (if t then x ∷ merged_by stamp xs (y ∷ ys) else y ∷ merged_by stamp (x ∷ xs) ys)
          ≡ (if t then stamp x ∷ merged_by stamp_itself (map stamp xs) (map stamp (y ∷ ys)) else stamp y ∷ merged_by stamp_itself (map stamp (x ∷ xs)) (map stamp ys))
      by true left right = ap (λ l. stamp x ∷ l) left
      by false left right = ap (λ l. stamp y ∷ l) right

  pub map_onto : (acc : List X) (rest : List (List X)) → map stamp (merged_onto stamp acc rest) ≡ merged_onto stamp_itself (map stamp acc) (map (map stamp) rest)
  map_onto acc [] = refl
  map_onto acc (xs ∷ rest) = map_onto (merged_by stamp acc xs) rest ∙ ap (λ l. merged_onto stamp_itself l (map (map stamp) rest)) (map_merged acc xs)

-- the step of the merge, by its test
pub first_less : (x : ℕ) (xs ys : List ℕ) (y : ℕ) → nat_le x y ≡ true → merged_by stamp_itself (x ∷ xs) (y ∷ ys) ≡ x ∷ merged_by stamp_itself xs (y ∷ ys)
first_less x xs ys y is = rw is refl

pub second_less : (x : ℕ) (xs ys : List ℕ) (y : ℕ) → nat_le x y ≡ false → merged_by stamp_itself (x ∷ xs) (y ∷ ys) ≡ y ∷ merged_by stamp_itself (x ∷ xs) ys
second_less x xs ys y is = rw is refl

-- one step of the loop
pub one_step : (out rest whole : List ℕ) (x : ℕ) (before : List ℕ) → before ≡ x ∷ rest → out ++ before ≡ whole → (out ++ x ∷ []) ++ rest ≡ whole
one_step out rest whole x before is was = append_assoc out (x ∷ []) rest ∙ ap (λ l. out ++ l) (sym is) ∙ was

-- the second list is done
pub all_first : (out xs ys whole : List ℕ) → ys ≡ [] → out ++ merged_by stamp_itself xs ys ≡ whole → out ++ xs ≡ whole
all_first out xs ys whole none was = ap (λ l. out ++ l) (sym (ap (merged_by stamp_itself xs) none ∙ merged-nil stamp_itself xs)) ∙ was
