-- The last elements of a list, moved to a place in front of others.
use Rattle.std.proofs.Common.{ℕ, ◌≡◌, ◌∙◌, ◌+◌, ◌-◌, ◌≤◌, ap, ap₂, sym, List, [], ◌++◌, length, take, drop, append-nil, length-drop, arith}
use Rattle.std.proofs.lemmas.List.{take_all, drop_all, drop-drop, drop-take}
use borrow.Rule.Slice.PartMut.{put_mid, mid_of}

-- what a rotation of the part from a place on leaves
pub moved : {X : Type 0} (xs ys : List X) (at count : ℕ) → at + count ≤ length xs
    → ys ≡ drop (length (mid_of at (length xs - at) xs) - count) (mid_of at (length xs - at) xs)
    ++ take (length (mid_of at (length xs - at) xs) - count) (mid_of at (length xs - at) xs)
    → put_mid at (length xs - at) xs ys
    ≡ take at xs ++ (drop (length xs - count) xs ++ drop at (take (length xs - count) xs))
moved xs ys at count within is =
    let long = length-drop at xs in
    let rest : mid_of at (length xs - at) xs ≡ drop at xs = take_all (length xs - at) (drop at xs) (omega (arith, long)) in
    let none : drop (length xs - at) (drop at xs) ≡ [] = drop_all (length xs - at) (drop at xs) (omega (arith, long)) in
    let n : length (mid_of at (length xs - at) xs) - count ≡ length xs - at - count = ap (λ l. length l - count) rest ∙ ap (λ k. k - count) long in
    let back : drop (length (mid_of at (length xs - at) xs) - count) (mid_of at (length xs - at) xs) ≡ drop (length xs - count) xs =
    ap₂ drop n rest ∙ drop-drop (length xs - at - count) at xs ∙ ap (λ k. drop k xs) (omega (arith, within)) in
    let front : take (length (mid_of at (length xs - at) xs) - count) (mid_of at (length xs - at) xs) ≡ drop at (take (length xs - count) xs) =
    ap₂ take n rest ∙ sym (drop-take at (length xs - at - count) xs) ∙ ap (λ k. drop at (take k xs)) (omega (arith, within)) in
    ap (λ l. take at xs ++ (l ++ drop (length xs - at) (drop at xs))) (is ∙ ap₂ (λ a b. a ++ b) back front)
    ∙ ap (λ l. take at xs ++ ((drop (length xs - count) xs ++ drop at (take (length xs - count) xs)) ++ l)) none
    ∙ ap (λ l. take at xs ++ l) (append-nil _)
