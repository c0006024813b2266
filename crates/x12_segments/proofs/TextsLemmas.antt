-- Lemmas on going over slices: what is left of them, and whether all so far is right.
use Rattle.std.proofs.Common.{◌≡◌, ℕ, ◌+◌, ◌<◌, ◌≤◌, Bool, true, false, ◌&&◌, List, [], ◌∷◌, length, drop, get_or, refl, ap, ◌∙◌, add-one, drop-cons}
use Rattle.std.proofs.lemmas.List.{drop_all}
use Rattle.std.specs.Borrow.{Bor}
use Rattle.x12_envelopes.specs.Writing.{texts}

-- the first of what is left, and what is left behind it
pub texts_left : (i : ℕ) (xs : List (Bor (List ℕ))) (d : Bor (List ℕ)) → i < length xs →
    texts (drop i xs) ≡ (get_or xs i d).now ∷ texts (drop (i + 1) xs)
texts_left i xs d inside =
    let first : drop i xs ≡ get_or xs i d ∷ drop (i + 1) xs = rw add-one (drop-cons xs i d inside) in
    rw first refl

-- nothing is left
pub texts_done : (i : ℕ) (xs : List (Bor (List ℕ))) → length xs ≤ i → texts (drop i xs) ≡ []
texts_done i xs past = rw (drop_all i xs past) refl

-- one more, which is right or not
pub right_on : (all right is rest whole after : Bool) → right ≡ is → (all && (is && rest)) ≡ whole → after ≡ (all && right) → (after && rest) ≡ whole
right_on true right is rest whole after same was now = ap (λ b. b && rest) (now ∙ same) ∙ was
right_on false right is rest whole after same was now = ap (λ b. b && rest) now ∙ was

-- with none left
pub and_true : (b : Bool) → (b && true) ≡ b
and_true true = refl
and_true false = refl
