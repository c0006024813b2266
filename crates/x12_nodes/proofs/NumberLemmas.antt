-- The number of an event in the run is how many events have stamps up to its own.
use Rattle.std.proofs.Common.{◌≡◌, ℕ, zero, suc, ◌+◌, ◌<◌, ◌≤◌, ◌⊎◌, List, [], ◌∷◌, ◌++◌, true, false, nat_le, Some, Contains, filter, length, refl, slice_get, ap, ◌∙◌, inl, inr, arith, length-append}
use Rattle.std.proofs.lemmas.Bool.Decides.{nat_tests}
use Rattle.std.proofs.lemmas.List.Elements.{Contains-push_cases, filter-append}
use Rattle.x12_nodes.specs.Merge.{Logged, number_at}
use Rattle.x12_numbers.proofs.Shelf.{contains_head, contains_tail, some_inj}
use Rattle.x12_station.proofs.ListLemmas.{get_contains}

count_all : (xs : List Logged) (s : ℕ) → ((x : Logged) → Contains xs x → x.entry.stamp ≤ s) → number_at xs s ≡ length xs
count_all [] s below = refl
count_all (x ∷ xs) s below = rw is_within (ap suc (count_all xs s (λ y h. below y (contains_tail y x xs h))))
  where
    is_within : nat_le x.entry.stamp s ≡ true
    is_within = let le = below x (contains_head x xs) in grind (arith, nat_tests)

number_push : (xs : List Logged) (x : Logged) (s : ℕ) → number_at (xs ++ x ∷ []) s ≡ number_at xs s + length (filter (λ (y : Logged). nat_le y.entry.stamp s) (x ∷ []))
number_push xs x s = ap length (filter-append (λ (y : Logged). nat_le y.entry.stamp s) xs (x ∷ [])) ∙ length-append _ _

-- the event at index k has the number k + 1
abbrev pub Numbered : List Logged → Type 0
Numbered xs = (k : ℕ) (x : Logged) → slice_get xs k ≡ Some x → number_at xs x.entry.stamp ≡ suc k

last_cases : (xs : List Logged) (y : Logged) (k : ℕ) (x : Logged) → slice_get (xs ++ y ∷ []) k ≡ Some x → (slice_get xs k ≡ Some x) ⊎ ((k ≡ length xs) × (y ≡ x))
last_cases [] y zero x e = inr (refl, some_inj e)
last_cases [] y (suc k) x e = absurd cc
last_cases (z ∷ xs) y zero x e = inl e
last_cases (z ∷ xs) y (suc k) x e = elim (last_cases xs y k x e) [
  | inl there ↦ inl there
  | inr here ↦ inr (ap suc here.0, here.1)
]

pub numbered_push : (xs : List Logged) (x : Logged) → ((y : Logged) → Contains xs y → y.entry.stamp < x.entry.stamp) → Numbered xs → Numbered (xs ++ x ∷ [])
numbered_push xs x below was k y at = elim (last_cases xs x k y at) [
  | inl old ↦ number_push xs x y.entry.stamp ∙ (let lt = below y (get_contains xs k y old) in let n = was k y old in rw (above y lt) (omega (arith, n)))
  | inr new ↦ count_all (xs ++ x ∷ []) y.entry.stamp (all_below y new.1) ∙ length-append xs (x ∷ []) ∙ (let e = new.0 in omega arith)
]
  where
    above : (y : Logged) → y.entry.stamp < x.entry.stamp → nat_le x.entry.stamp y.entry.stamp ≡ false
    above y lt = grind (arith, nat_tests)

    all_below : (y : Logged) → x ≡ y → (z : Logged) → Contains (xs ++ x ∷ []) z → z.entry.stamp ≤ y.entry.stamp
    all_below y same z h = elim (Contains-push_cases xs x z h) [
      | inl there ↦ let lt = below z there in let e : x.entry.stamp ≡ y.entry.stamp = ap (λ (v : Logged). v.entry.stamp) same in omega arith
      | inr is ↦ let e : x.entry.stamp ≡ y.entry.stamp = ap (λ (v : Logged). v.entry.stamp) same in let f : x.entry.stamp ≡ z.entry.stamp = ap (λ (v : Logged). v.entry.stamp) is in omega arith
    ]
