-- Rows under numbers that rise, found one after the other.
use Rattle.std.specs.Prelude.{◌≡◌, ℕ, zero, suc, ◌+◌, ◌<◌, ◌≤◌, ◌==◌, List, [], ◌∷◌, ◌++◌, Bool, true, false, cond, Option, Some, None, All, AllPairs, find, flat_map, option_to_list, slice_index_or, refl}
use Rattle.std.specs.List.{range_with_len}
use mathlib.Core.Path.{ap, ap₂, ◌∙◌}
use mathlib.Core.Logic.{inl, inr}
use native.Mathlib.Omega.{arith}
use Rattle.std.proofs.lemmas.List.Elements.{All-nil, All-cons, All-head, All-tail}
use Rattle.std.proofs.lemmas.Bool.Decides.{eqb_tells}

module _ {X : Type 0} where
  pub all_front : (P : X → Type 0) (xs ys : List X) → All P (xs ++ ys) → All P xs
  all_front P [] ys all = All-nil P
  all_front P (x ∷ xs) ys all = All-cons P x xs (All-head P x (xs ++ ys) all) (all_front P xs ys (All-tail P x (xs ++ ys) all))

  pub all_behind : (P : X → Type 0) (xs ys : List X) → All P (xs ++ ys) → All P ys
  all_behind P [] ys all = all
  all_behind P (x ∷ xs) ys all = all_behind P xs ys (All-tail P x (xs ++ ys) all)

  pub pairs_head : (R : X → X → Type 0) (x : X) (xs : List X) → AllPairs R (x ∷ xs) → All (R x) xs
  pairs_head R x xs all = λ k d within. all 0 (suc k) d (omega arith) (omega arith)

  pub pairs_tail : (R : X → X → Type 0) (x : X) (xs : List X) → AllPairs R (x ∷ xs) → AllPairs R xs
  pairs_tail R x xs all = λ i j d before within. all (suc i) (suc j) d (omega arith) (omega arith)

  -- one element more is found where it passes, and changes nothing where it doesn't
  pub find_pushed : (p : X → Bool) (xs : List X) (x : X) → find p xs ≡ None → p x ≡ true → find p (xs ++ x ∷ []) ≡ Some x
  find_pushed p [] x none is = rw is
  find_pushed p (y ∷ xs) x none is = by (p y) none (λ rest. find_pushed p xs x rest is)
    where
      by : (t : Bool) → cond t (Some y) (find p xs) ≡ None → (find p xs ≡ None → find p (xs ++ x ∷ []) ≡ Some x) → cond t (Some y) (find p (xs ++ x ∷ [])) ≡ Some x
      by true e later = absurd cc
      by false e later = later e

  pub find_kept : (p : X → Bool) (xs : List X) (x : X) → p x ≡ false → find p (xs ++ x ∷ []) ≡ find p xs
  find_kept p [] x not = rw not
  find_kept p (y ∷ xs) x not = rw (find_kept p xs x not)

-- the numbers from one on, with one more
pub range_more : (from len : ℕ) → range_with_len from (suc len) ≡ range_with_len from len ++ (from + len) ∷ []
range_more from zero = ap (λ n. n ∷ []) (omega arith)
range_more from (suc len) = ap (λ l. from ∷ l) (range_more (from + 1) len ∙ ap (λ n. range_with_len (from + 1) len ++ n ∷ []) (omega arith))

pub all_of_range : (P : ℕ → Type 0) (from len : ℕ) → ((n : ℕ) → from ≤ n → n < from + len → P n) → All P (range_with_len from len)
all_of_range P from zero each = All-nil P
all_of_range P from (suc len) each =
    All-cons P from (range_with_len (from + 1) len) (each from (omega arith) (omega arith)) (all_of_range P (from + 1) len (λ n low high. each n (omega arith) (omega arith)))

-- what is told of each number alike
pub flat_map_range : {A : Type 0} (f g : ℕ → List A) (from len : ℕ) → ((n : ℕ) → from ≤ n → n < from + len → f n ≡ g n) → flat_map f (range_with_len from len) ≡ flat_map g (range_with_len from len)
flat_map_range f g from zero each = refl
flat_map_range f g from (suc len) each =
    ap₂ (λ a b. a ++ b) (each from (omega arith) (omega arith)) (flat_map_range f g (from + 1) len (λ n low high. each n (omega arith) (omega arith)))

module _ {R : Type 0} (key : R → ℕ) where
  -- the row of this number
  abbrev pub under : ℕ → List R → Option R
  under n rs = find (λ r. key r == n) rs

  pub none_above : (rs : List R) (n : ℕ) → All (λ r. n < key r) rs → under n rs ≡ None
  none_above [] n above = refl
  none_above (r ∷ rs) n above =
      let first : n < key r = All-head (λ r. n < key r) r rs above in
      elim (eqb_tells (key r) n) [
        | inl is ↦ absurd (omega arith)
        | inr not ↦ rw (not.0, none_above rs n (All-tail (λ r. n < key r) r rs above))
      ]

  pub none_below : (rs : List R) (n : ℕ) → All (λ r. key r < n) rs → under n rs ≡ None
  none_below [] n below = refl
  none_below (r ∷ rs) n below =
      let first : key r < n = All-head (λ r. key r < n) r rs below in
      elim (eqb_tells (key r) n) [
        | inl is ↦ absurd (omega arith)
        | inr not ↦ rw (not.0, none_below rs n (All-tail (λ r. key r < n) r rs below))
      ]

  -- rows whose numbers rise, all within a range, are found in their order
  pub picked : (len from : ℕ) (rs : List R) → AllPairs (λ r q. key r < key q) rs → All (λ r. from ≤ key r) rs → All (λ r. key r < from + len) rs
      → flat_map (λ n. option_to_list (under n rs)) (range_with_len from len) ≡ rs
  picked zero from [] rise low high = refl
  picked zero from (r ∷ rs) rise low high =
      let a : from ≤ key r = All-head (λ r. from ≤ key r) r rs low in
      let b : key r < from + 0 = All-head (λ r. key r < from + 0) r rs high in
      absurd (omega arith)
  picked (suc len) from [] rise low high = picked len (from + 1) [] rise (All-nil _) (All-nil _)
  picked (suc len) from (r ∷ rs) rise low high =
      let a : from ≤ key r = All-head (λ r. from ≤ key r) r rs low in
      elim (eqb_tells (key r) from) [
        | inl is ↦ rw is.0 (ap (λ l. r ∷ l) (
            flat_map_range (λ n. option_to_list (under n (r ∷ rs))) (λ n. option_to_list (under n rs)) (from + 1) len (λ n within high. ap option_to_list (elim (eqb_tells (key r) n) [
              | inl same ↦ absurd (omega arith)
              | inr not ↦ rw not.0
            ]))
            ∙ picked len (from + 1) rs (pairs_tail (λ r q. key r < key q) r rs rise)
            (λ k d within. let up : key r < key (slice_index_or rs k d) = pairs_head (λ r q. key r < key q) r rs rise k d within in omega arith)
            (λ k d within. let top : key (slice_index_or rs k d) < from + suc len = All-tail (λ r. key r < from + suc len) r rs high k d within in omega arith)))
        | inr not ↦ rw not.0 (rw (none_above rs from (λ k d within. let up : key r < key (slice_index_or rs k d) = pairs_head (λ r q. key r < key q) r rs rise k d within in omega arith)) (
            picked len (from + 1) (r ∷ rs) rise
            (All-cons (λ r. from + 1 ≤ key r) r rs (omega arith) (λ k d within. let up : key r < key (slice_index_or rs k d) = pairs_head (λ r q. key r < key q) r rs rise k d within in omega arith))
            (λ k d within. let top : key (slice_index_or (r ∷ rs) k d) < from + suc len = high k d within in omega arith)))
      ]
