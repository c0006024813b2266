-- Whether a number stands twice, number by number.
use Rattle.std.specs.Prelude.{◌≡◌, ℕ, ◌+◌, ◌<◌, List, [], ◌∷◌, ◌++◌, Bool, true, false, cond, not, ◌&&◌, ◌||◌, map, take, drop, length, bytes_eq, refl}
use Rattle.std.specs.List.{list_any}
use mathlib.Core.Path.{sym, ap, ap₂, ◌∙◌}
use Rattle.std.proofs.lemmas.List.{map-append, take_more, take-append-drop}
use Rattle.std.proofs.lemmas.List.Folds.{list_any-append}
use Rattle.std.proofs.Common.{get_or}
use Rattle.x12_envelopes.specs.Shape.{TransactionSet as ReadSet}
use Rattle.x12_profile.specs.X12.{are_new_numbers}
use Rattle.x12_numbers.proofs.Shelf.{list_any-map}
use Rattle.std.proofs.lemmas.Bool.{and_parts}

regrouped : (a b n q : Bool) → (not (a || (b || false)) && (n && not q)) ≡ ((not a && n) && not (b || q))
regrouped true b n q = refl
regrouped false true true q = refl
regrouped false true false q = refl
regrouped false false n q = refl

abbrev same : ReadSet → ReadSet → Bool
same s t = bytes_eq s.number t.number

-- one set more, whose number isn't among those before it
pub new_pushed : (xs : List ReadSet) (s : ReadSet) → are_new_numbers (xs ++ s ∷ []) ≡ (are_new_numbers xs && not (list_any (λ t. bytes_eq t.number s.number) xs))
new_pushed [] s = refl
new_pushed (x ∷ xs) s =
    ap₂ (λ a b. not a && b) (list_any-append (same x) xs (s ∷ [])) (new_pushed xs s)
    ∙ regrouped (list_any (same x) xs) (same x s) (are_new_numbers xs) (list_any (λ t. bytes_eq t.number s.number) xs)

front : (a b n : Bool) → not (a || b) ≡ true → n ≡ true → (not a && n) ≡ true
front true b n none new = absurd cc
front false b n none new = new

-- what is new of all is new of the front
pub new_front : (xs ys : List ReadSet) → are_new_numbers (xs ++ ys) ≡ true → are_new_numbers xs ≡ true
new_front [] ys new = refl
new_front (x ∷ xs) ys new =
    let parts = and_parts (not (list_any (same x) (xs ++ ys))) (are_new_numbers (xs ++ ys)) new in
    front (list_any (same x) xs) (list_any (same x) ys) (are_new_numbers xs) (ap not (sym (list_any-append (same x) xs ys)) ∙ parts.0) (new_front xs ys parts.1)

pub either : (b r : Bool) → cond b true r ≡ (r || (b || false))
either true true = refl
either true false = refl
either false true = refl
either false false = refl

pub told_no : (t b : Bool) → t ≡ not b → t ≡ true → b ≡ false
told_no t b is held = by b (sym held ∙ is)
  where
    by : (b : Bool) → true ≡ not b → b ≡ false
    by true e = absurd (let no : true ≡ false = e in cc)
    by false e = refl

pub told_yes : (t b : Bool) → t ≡ not b → t ≡ false → b ≡ true
told_yes t b is not_held = by b (sym not_held ∙ is)
  where
    by : (b : Bool) → false ≡ not b → b ≡ true
    by true e = refl
    by false e = absurd (let and_parts : false ≡ true = e in cc)

-- a list of values, as far as a place
module _ {V : Type 0} (vs : List V) (i : ℕ) (v : V) (below : i < length vs) (is : v ≡ get_or vs i v) where
  next : take (i + 1) vs ≡ take i vs ++ v ∷ []
  next = take_more vs i v below ∙ ap (λ z. take i vs ++ z ∷ []) (sym is)

  pub seen_next : (p : V → Bool) → list_any p (take (i + 1) vs) ≡ (list_any p (take i vs) || (p v || false))
  seen_next p = ap (list_any p) next ∙ list_any-append p (take i vs) (v ∷ [])

-- which stand for sets
module _ {V : Type 0} (view : V → ReadSet) (vs : List V) (i : ℕ) (v : V) (below : i < length vs) (is : v ≡ get_or vs i v) where
  pub new_next : are_new_numbers (map view (take (i + 1) vs)) ≡ (are_new_numbers (map view (take i vs)) && not (list_any (λ w. bytes_eq (view w).number (view v).number) (take i vs)))
  new_next =
      ap (λ l. are_new_numbers (map view l)) (next vs i v below is) ∙ ap are_new_numbers (map-append view (take i vs) (v ∷ [])) ∙ new_pushed (map view (take i vs)) (view v)
      ∙ ap (λ b. are_new_numbers (map view (take i vs)) && not b) (list_any-map (λ t. bytes_eq t.number (view v).number) view (take i vs))

  -- where it was seen, all have a number twice
  pub twice : list_any (λ w. bytes_eq (view w).number (view v).number) (take i vs) ≡ true → true ≡ not (are_new_numbers (map view vs))
  twice seen = by (are_new_numbers (map view vs)) refl
    where
      none : (n : Bool) → (n && false) ≡ false
      none true = refl
      none false = refl

      by : (t : Bool) → are_new_numbers (map view vs) ≡ t → true ≡ not t
      by true new =
          let all : map view (take (i + 1) vs) ++ map view (drop (i + 1) vs) ≡ map view vs = sym (map-append view (take (i + 1) vs) (drop (i + 1) vs)) ∙ ap (map view) (take-append-drop (i + 1) vs) in
          let begun = new_front (map view (take (i + 1) vs)) (map view (drop (i + 1) vs)) (ap are_new_numbers all ∙ new) in
          let ended = new_next ∙ ap (λ b. are_new_numbers (map view (take i vs)) && not b) seen ∙ none (are_new_numbers (map view (take i vs))) in
          absurd (let no : true ≡ false = sym begun ∙ ended in cc)
      by false new = refl
