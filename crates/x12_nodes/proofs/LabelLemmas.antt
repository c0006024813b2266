-- Lists under their numbers, merged: what is found of each, and where what stands there came from.
use Rattle.std.proofs.Common.{◌≡◌, ◌≢◌, ℕ, zero, suc, ◌+◌, ◌<◌, ◌⊎◌, List, [], ◌∷◌, Bool, true, false, ◌==◌, if◌then◌else◌, nat_le, Some, filter, map, Contains, slice_get, refl, sym, ap, subst, ◌∙◌, inl, inr, arith}
use Rattle.std.proofs.Common.{ne_eqb}
use Rattle.x12_nodes.specs.Merging.{merged_by, merged_onto, all_merged}
use Rattle.x12_nodes.proofs.MergingLemmas.{none_of_first, none_of_second, onto_none}
use Rattle.x12_numbers.proofs.Shelf.{contains_head, contains_tail, contains_cons, none_in_nil, eq_itself, some_inj}

-- what stands in a merge stands in one of the lists
module _ {X : Type 0} (stamp : X → ℕ) where
  pub merged_has : (xs ys : List X) (x : X) → Contains (merged_by stamp xs ys) x → Contains xs x ⊎ Contains ys x
  merged_has [] ys x h = inr h
  merged_has (u ∷ xs) [] x h = inl h
  merged_has (u ∷ xs) (v ∷ ys) x h = by (nat_le (stamp u) (stamp v)) (merged_has xs (v ∷ ys) x) (merged_has (u ∷ xs) ys x) h
    where
      by : (t : Bool) → (Contains (merged_by stamp xs (v ∷ ys)) x → Contains xs x ⊎ Contains (v ∷ ys) x) → (Contains (merged_by stamp (u ∷ xs) ys) x → Contains (u ∷ xs) x ⊎ Contains ys x)
          → Contains (if t then u ∷ merged_by stamp xs (v ∷ ys) else v ∷ merged_by stamp (u ∷ xs) ys) x → Contains (u ∷ xs) x ⊎ Contains (v ∷ ys) x
      by true left right h = elim (contains_cons x u (merged_by stamp xs (v ∷ ys)) h) [
        | inl is ↦ inl (subst (λ z. Contains (u ∷ xs) z) is (contains_head u xs))
        | inr past ↦ elim (left past) [
          | inl there ↦ inl (contains_tail x u xs there)
          | inr there ↦ inr there
        ]
      ]
      by false left right h = elim (contains_cons x v (merged_by stamp (u ∷ xs) ys) h) [
        | inl is ↦ inr (subst (λ z. Contains (v ∷ ys) z) is (contains_head v ys))
        | inr past ↦ elim (right past) [
          | inl there ↦ inl there
          | inr there ↦ inr (contains_tail x v ys there)
        ]
      ]

  pub onto_has : (acc : List X) (rest : List (List X)) (x : X) → Contains (merged_onto stamp acc rest) x → Contains acc x ⊎ ((xs : List X) × Contains rest xs × Contains xs x)
  onto_has acc [] x h = inl h
  onto_has acc (xs ∷ rest) x h = elim (onto_has (merged_by stamp acc xs) rest x h) [
    | inl here ↦ elim (merged_has acc xs x here) [
      | inl there ↦ inl there
      | inr there ↦ inr (xs, contains_head xs rest, there)
    ]
    | inr past ↦ inr (past.0, contains_tail past.0 xs rest past.1, past.2)
  ]

-- items under the numbers of their lists
module _ {C A X : Type 0} (items : C → List A) (label : ℕ → A → X) (owner : X → ℕ) (owner_is : (i : ℕ) (a : A) → owner (label i a) ≡ i) (stamp : X → ℕ) where
  abbrev pub labelled_from : ℕ → List C → List (List X)
  labelled_from n [] = []
  labelled_from n (c ∷ cs) = map (label n) (items c) ∷ labelled_from (suc n) cs

  abbrev pub all_labelled : List C → List X
  all_labelled cs = all_merged stamp (labelled_from 0 cs)

  all_own : (i : ℕ) (us : List A) → filter (λ x. owner x == i) (map (label i) us) ≡ map (label i) us
  all_own i [] = refl
  all_own i (a ∷ us) = rw (owner_is i a, eq_itself i) (ap (λ l. label i a ∷ l) (all_own i us))

  none_own : (i n : ℕ) → n ≢ i → (us : List A) → filter (λ x. owner x == i) (map (label n) us) ≡ []
  none_own i n apart [] = refl
  none_own i n apart (a ∷ us) = rw (owner_is n a, ne_eqb n i apart) (none_own i n apart us)

  none_later : (i n : ℕ) → i < n → (cs : List C) (xs : List X) → Contains (labelled_from n cs) xs → filter (λ x. owner x == i) xs ≡ []
  none_later i n lt [] xs h = none_in_nil xs h
  none_later i n lt (c ∷ cs) xs h = elim (contains_cons xs (map (label n) (items c)) (labelled_from (suc n) cs) h) [
    | inl is ↦ subst (λ z. filter (λ x. owner x == i) z ≡ []) is (none_own i n (λ same. omega arith) (items c))
    | inr past ↦ none_later i (suc n) (omega arith) cs xs past
  ]

  pick : (i n k : ℕ) (cs : List C) (acc : List X) (c : C) → slice_get cs k ≡ Some c → i ≡ n + k → filter (λ x. owner x == i) acc ≡ []
      → filter (λ x. owner x == i) (merged_onto stamp acc (labelled_from n cs)) ≡ map (label i) (items c)
  pick i n k [] acc c at is none = absurd cc
  pick i n zero (d ∷ cs) acc c at is none =
      let same : i ≡ n = omega arith in
      onto_none stamp (λ x. owner x == i) (merged_by stamp acc (map (label n) (items d))) (labelled_from (suc n) cs) (none_later i (suc n) (omega arith) cs)
      ∙ none_of_first stamp (λ x. owner x == i) acc (map (label n) (items d)) none
      ∙ subst (λ m. filter (λ x. owner x == i) (map (label m) (items d)) ≡ map (label i) (items d)) same (all_own i (items d))
      ∙ ap (λ (e : C). map (label i) (items e)) (some_inj at)
  pick i n (suc k) (d ∷ cs) acc c at is none =
      pick i (suc n) k cs (merged_by stamp acc (map (label n) (items d))) c at (omega arith)
      (none_of_second stamp (λ x. owner x == i) acc (map (label n) (items d)) (none_own i n (λ same. omega arith) (items d)) ∙ none)

  -- what the merge has of one list is that list
  pub own_of : (i : ℕ) (cs : List C) (c : C) → slice_get cs i ≡ Some c → filter (λ x. owner x == i) (all_labelled cs) ≡ map (label i) (items c)
  own_of i cs c at = pick i 0 i cs [] c at (omega arith) refl

  in_map : (i : ℕ) (us : List A) (x : X) → Contains (map (label i) us) x → (a : A) × Contains us a × (label i a ≡ x)
  in_map i [] x h = none_in_nil x h
  in_map i (a ∷ us) x h = elim (contains_cons x (label i a) (map (label i) us) h) [
    | inl is ↦ (a, contains_head a us, is)
    | inr past ↦ let r = in_map i us x past in (r.0, contains_tail r.0 a us r.1, r.2)
  ]

  -- where what stands in the merge came from
  record CameFrom (n : ℕ) (cs : List C) (x : X) : Type 0 where
    index : ℕ
    list : C
    there : slice_get cs index ≡ Some list
    item : A
    within : Contains (items list) item
    is : label (n + index) item ≡ x

  from_lists : (n : ℕ) (cs : List C) (xs : List X) (x : X) → Contains (labelled_from n cs) xs → Contains xs x → CameFrom n cs x
  from_lists n [] xs x h here = none_in_nil xs h
  from_lists n (c ∷ cs) xs x h here = elim (contains_cons xs (map (label n) (items c)) (labelled_from (suc n) cs) h) [
    | inl is ↦
        let r = in_map n (items c) x (subst (λ z. Contains z x) (sym is) here) in
        record { index = 0; list = c; there = refl; item = r.0; within = r.1; is = ap (λ m. label m r.0) (zero_more n) ∙ r.2 }
    | inr past ↦
        let r : CameFrom (suc n) cs x = from_lists (suc n) cs xs x past here in
        record { index = suc r.index; list = r.list; there = r.there; item = r.item; within = r.within; is = ap (λ m. label m r.item) (one_more n r.index) ∙ r.is }
  ]
    where
      zero_more : (m : ℕ) → m + 0 ≡ m
      zero_more m = omega arith

      one_more : (m k : ℕ) → m + suc k ≡ suc m + k
      one_more m k = omega arith

  pub came_from : (cs : List C) (x : X) → Contains (all_labelled cs) x → (i : ℕ) × (c : C) × (slice_get cs i ≡ Some c) × (a : A) × Contains (items c) a × (label i a ≡ x)
  came_from cs x h = elim (onto_has stamp [] (labelled_from 0 cs) x h) [
    | inl none ↦ none_in_nil x none
    | inr some ↦
        let r : CameFrom 0 cs x = from_lists 0 cs some.0 x some.1 some.2 in
        (r.index, r.list, r.there, r.item, r.within, ap (λ m. label m r.item) (plain r.index) ∙ r.is)
  ]
    where
      plain : (m : ℕ) → m ≡ 0 + m
      plain m = omega arith
