-- Set control numbers compare as their bytes do: numbers filled up with zero bytes, then their lengths.
use Rattle.std.proofs.Common.{◌≡◌, ℕ, ◌+◌, ◌-◌, List, [], ◌∷◌, ◌++◌, length, replicate, ◌&&◌, nat_eq, bytes_eq, zero, suc, refl, sym, ◌∙◌, ap, subst, arith}
use Rattle.std.specs.declared.cmp.Ordering.{Ordering}
use Rattle.std.specs.declared.cmp.Ordering.TheVariants.{Less, Equal, Greater}
use Rattle.std.specs.Ordering.{nat_cmp, ordering_then, is_eq}
use Rattle.std.specs.Cmp.{nat_cmp_is, tied_then, unsigned_ties}
use Rattle.std.specs.Cmp.Lexicographic.{slice_cmp}
use Rattle.std.proofs.lemmas.Map.Text.{is_eq-slice_cmp}
use Rattle.std.proofs.lemmas.List.{take-append-drop, length-take, length-append, length-replicate}
use Rattle.x12_envelopes.specs.declared.shape.SetNo.{SetNo}
use Rattle.x12_envelopes.specs.Shape.{bytes_of_set_no}

zeros_same : (m : ℕ) → slice_cmp nat_cmp (replicate m 0) (replicate m 0) ≡ Equal
zeros_same zero = refl
zeros_same (suc m) = zeros_same m

-- zeros come before what is as long, or tie with it
zeros_below : (zs : List ℕ) → ordering_then (slice_cmp nat_cmp (replicate (length zs) 0) zs) Less ≡ Less
zeros_below [] = refl
zeros_below (zero ∷ zs) = zeros_below zs
zeros_below (suc z ∷ zs) = ap (λ o. ordering_then (ordering_then o (slice_cmp nat_cmp (replicate (length zs) 0) zs)) Less) (sym (nat_cmp_is 0 (suc z) Less (omega arith)))

zeros_above : (zs : List ℕ) → ordering_then (slice_cmp nat_cmp zs (replicate (length zs) 0)) Greater ≡ Greater
zeros_above [] = refl
zeros_above (zero ∷ zs) = zeros_above zs
zeros_above (suc z ∷ zs) = ap (λ o. ordering_then (ordering_then o (slice_cmp nat_cmp zs (replicate (length zs) 0))) Greater) (sym (nat_cmp_is (suc z) 0 Greater (omega arith)))

then_assoc : (p q r : Ordering) → ordering_then (ordering_then p q) r ≡ ordering_then p (ordering_then q r)
then_assoc Less q r = refl
then_assoc Equal q r = refl
then_assoc Greater q r = refl

-- a and b are the lengths, with k more on both sides
padded_cmp : (a b k m n : ℕ) (xs ys : List ℕ) → a ≡ k + length xs → b ≡ k + length ys → length xs + m ≡ length ys + n → ordering_then (slice_cmp nat_cmp (xs ++ replicate m 0) (ys ++ replicate n 0)) (nat_cmp a b) ≡ slice_cmp nat_cmp xs ys
padded_cmp a b k m n [] [] h g e =
    let same : slice_cmp nat_cmp (replicate m 0) (replicate n 0) ≡ Equal = subst (λ v. slice_cmp nat_cmp (replicate m 0) (replicate v 0) ≡ Equal) (omega (arith, e)) (zeros_same m) in
    let tie : nat_cmp a b ≡ Equal = sym (nat_cmp_is a b Equal (omega (arith, h, g))) in
    rw (same, tie) refl
padded_cmp a b k m n [] (y ∷ ys) h g e =
    let zs = (y ∷ ys) ++ replicate n 0 in
    let m_is : length zs ≡ m = omega (arith, e, length-append (y ∷ ys) (replicate n 0), length-replicate {A = ℕ} n 0) in
    let less : nat_cmp a b ≡ Less = sym (nat_cmp_is a b Less (omega (arith, h, g))) in
    rw less (subst (λ v. ordering_then (slice_cmp nat_cmp (replicate v 0) zs) Less ≡ Less) m_is (zeros_below zs))
padded_cmp a b k m n (x ∷ xs) [] h g e =
    let zs = (x ∷ xs) ++ replicate m 0 in
    let n_is : length zs ≡ n = omega (arith, e, length-append (x ∷ xs) (replicate m 0), length-replicate {A = ℕ} m 0) in
    let greater : nat_cmp a b ≡ Greater = sym (nat_cmp_is a b Greater (omega (arith, h, g))) in
    rw greater (subst (λ v. ordering_then (slice_cmp nat_cmp zs (replicate v 0)) Greater ≡ Greater) n_is (zeros_above zs))
padded_cmp a b k m n (x ∷ xs) (y ∷ ys) h g e =
    then_assoc (nat_cmp x y) (slice_cmp nat_cmp (xs ++ replicate m 0) (ys ++ replicate n 0)) (nat_cmp a b)
    ∙ ap (λ o. ordering_then (nat_cmp x y) o) (padded_cmp a b (k + 1) m n xs ys (omega (arith, h)) (omega (arith, g)) (omega (arith, e)))

filled_up : (x : SetNo) → bytes_of_set_no x ++ replicate (9 - x.len) 0 ≡ x.bytes
filled_up x = ap (λ t. bytes_of_set_no x ++ t) (sym x.padded) ∙ take-append-drop x.len x.bytes

length_is : (x : SetNo) → x.len ≡ length (bytes_of_set_no x)
length_is x = omega (arith, x.whole, x.most, length-take x.len x.bytes)

pub order_of_bytes : (x y : SetNo) → ordering_then (slice_cmp nat_cmp x.bytes y.bytes) (nat_cmp x.len y.len) ≡ slice_cmp nat_cmp (bytes_of_set_no x) (bytes_of_set_no y)
order_of_bytes x y =
    let low : (z : SetNo) → length (bytes_of_set_no z) + (9 - z.len) ≡ 9 = λ z. omega (arith, length_is z, z.most) in
    (λ i. ordering_then (slice_cmp nat_cmp (sym (filled_up x) i) (sym (filled_up y) i)) (nat_cmp x.len y.len))
    ∙ padded_cmp x.len y.len 0 (9 - x.len) (9 - y.len) (bytes_of_set_no x) (bytes_of_set_no y) (omega (arith, length_is x)) (omega (arith, length_is y)) (omega (arith, low x, low y))

pub equal_by_bytes : (x y : SetNo) → (bytes_eq x.bytes y.bytes && nat_eq x.len y.len) ≡ bytes_eq (bytes_of_set_no x) (bytes_of_set_no y)
equal_by_bytes x y =
    (λ i. sym (is_eq-slice_cmp x.bytes y.bytes) i && unsigned_ties x.len y.len i)
    ∙ tied_then (slice_cmp nat_cmp x.bytes y.bytes) (nat_cmp x.len y.len)
    ∙ ap is_eq (order_of_bytes x y)
    ∙ is_eq-slice_cmp (bytes_of_set_no x) (bytes_of_set_no y)
