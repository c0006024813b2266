-- Lists: what `take` keeps of lists that are joined, and tests over mapped lists.
use Rattle.std.proofs.Common.{◌≡◌, ℕ, ◌+◌, ◌≤◌, List, [], ◌∷◌, ◌++◌, length, take, map, zero, suc, refl, ap, sym, ◌∙◌, append_assoc, arith, ◌<◌, drop, get_or, drop-cons, add-one, Result, Ok, Err, OnOk, IfOk}
use Rattle.std.proofs.lemmas.List.{take-append-le, take_all, length-map}

-- what is cut off in front of more makes no difference
pub take_of_taken : {X : Type 0} (n : ℕ) (xs ys : List X) → take n (take n xs ++ ys) ≡ take n (xs ++ ys)
take_of_taken zero xs ys = refl
take_of_taken (suc n) [] ys = refl
take_of_taken (suc n) (x ∷ xs) ys = ap (λ zs. x ∷ zs) (take_of_taken n xs ys)

-- two steps that each keep the first so many are one
pub keeps_both :
    {X : Type 0} (n : ℕ) (zs xs ys first second : List X)
    → first ≡ take n (zs ++ xs)
    → second ≡ take n (first ++ ys)
    → second ≡ take n (zs ++ (xs ++ ys))
keeps_both n zs xs ys first second e f =
    f ∙ ap (λ ws. take n (ws ++ ys)) e ∙ take_of_taken n (zs ++ xs) ys ∙ ap (take n) (append_assoc zs xs ys)

-- a list that is full stays as it is
pub full_stays :
    {X Y : Type 0} (f : X → Y) (n : ℕ) (xs : List X) (ys : List Y) → length xs ≤ n → n ≤ length xs
    → map f xs ≡ take n (map f xs ++ ys)
full_stays f n xs ys most least =
    let same = length-map xs f in
    sym (take-append-le n (map f xs) ys (omega arith) ∙ take_all n (map f xs) (omega arith))

-- the next of what is left, and the rest
pub next_left :
    {X : Type 0} (xs : List X) (i : ℕ) (d : X) → i < length xs → drop i xs ≡ get_or xs i d ∷ drop (i + 1) xs
next_left xs i d within = drop-cons xs i d within ∙ ap (λ j. get_or xs i d ∷ drop j xs) (sym (add-one i))

-- what follows from what a call gives, where it gives something
pub on_ok : {T E P Q : Type 0} (r : Result T E) → (P → Q) → OnOk r P → OnOk r Q
on_ok (Ok x) f p = f p
on_ok (Err e) f p = p

-- the same of the value that a call gives
pub if_ok : {T E : Type 0} {P Q : T → Type 0} (r : Result T E) → ((x : T) → P x → Q x) → IfOk r P → IfOk r Q
if_ok (Ok x) f p = f x p
if_ok (Err e) f p = p
