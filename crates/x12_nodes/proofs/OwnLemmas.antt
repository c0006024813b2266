-- Lists under numbers of their own, merged: what is found of each, and where what stands there came from.
use Rattle.std.proofs.Common.{◌≡◌, ◌≢◌, ℕ, List, [], ◌∷◌, ◌++◌, true, ◌==◌, Some, filter, find, map, Contains, refl, sym, ap, subst, ◌∙◌, inl, inr}
use Rattle.std.proofs.Common.{ne_eqb}
use Rattle.std.proofs.lemmas.Bool.Decides.{eqb_tells}
use Rattle.std.proofs.lemmas.List.Elements.{Contains-push_cases}
use Rattle.x12_nodes.specs.Merging.{merged_by, merged_onto, all_merged}
use Rattle.x12_nodes.proofs.LabelLemmas.{onto_has}
use Rattle.x12_nodes.proofs.MergingLemmas.{none_of_first, none_of_second, onto_none}
use Rattle.x12_numbers.proofs.Shelf.{contains_head, contains_tail, contains_cons, none_in_nil, eq_itself, some_inj}

module _ {C : Type 0} (number : C → ℕ) where
  -- no two have one number
  abbrev pub Apart : List C → Type 0
  Apart [] = Unit {0}
  Apart (c ∷ cs) = ((d : C) → Contains cs d → number d ≢ number c) × Apart cs

  -- each is found by its number
  pub found_itself : (cs : List C) (c : C) → Apart cs → Contains cs c → find (λ d. number d == number c) cs ≡ Some c
  found_itself [] c apart h = none_in_nil c h
  found_itself (d ∷ cs) c apart h = elim (contains_cons c d cs h) [
    | inl is ↦ let e : (number d == number c) ≡ true = rw is (eq_itself (number c)) in rw e (ap Some is)
    | inr past ↦ rw (ne_eqb (number d) (number c) (λ e. apart.0 c past (sym e))) (found_itself cs c apart.1 past)
  ]

  -- one more of another number
  pub apart_push : (cs : List C) (c : C) → Apart cs → ((d : C) → Contains cs d → number c ≢ number d) → Apart (cs ++ c ∷ [])
  apart_push [] c apart others = ((λ d h. none_in_nil d h), tt)
  apart_push (b ∷ cs) c apart others = (
    (λ d h. elim (Contains-push_cases cs c d h) [
      | inl there ↦ apart.0 d there
      | inr is ↦ λ e. others b (contains_head b cs) (ap number is ∙ e)
    ]),
    apart_push cs c apart.1 (λ d h. others d (contains_tail d b cs h)),
  )

module _ {C A X : Type 0} (number : C → ℕ) (items : C → List A) (label : ℕ → A → X) (owner : X → ℕ) (owner_is : (i : ℕ) (a : A) → owner (label i a) ≡ i) (stamp : X → ℕ) where
  abbrev pub labelled : List C → List (List X)
  labelled [] = []
  labelled (c ∷ cs) = map (label (number c)) (items c) ∷ labelled cs

  abbrev pub merge_of : List C → List X
  merge_of cs = all_merged stamp (labelled cs)

  all_own : (i : ℕ) (us : List A) → filter (λ x. owner x == i) (map (label i) us) ≡ map (label i) us
  all_own i [] = refl
  all_own i (a ∷ us) = rw (owner_is i a, eq_itself i) (ap (λ l. label i a ∷ l) (all_own i us))

  none_own : (i n : ℕ) → n ≢ i → (us : List A) → filter (λ x. owner x == i) (map (label n) us) ≡ []
  none_own i n apart [] = refl
  none_own i n apart (a ∷ us) = rw (owner_is n a, ne_eqb n i apart) (none_own i n apart us)

  none_later : (i : ℕ) (cs : List C) → ((d : C) → Contains cs d → number d ≢ i) → (xs : List X) → Contains (labelled cs) xs → filter (λ x. owner x == i) xs ≡ []
  none_later i [] others xs h = none_in_nil xs h
  none_later i (c ∷ cs) others xs h = elim (contains_cons xs (map (label (number c)) (items c)) (labelled cs) h) [
    | inl is ↦ subst (λ z. filter (λ x. owner x == i) z ≡ []) is (none_own i (number c) (others c (contains_head c cs)) (items c))
    | inr past ↦ none_later i cs (λ d there. others d (contains_tail d c cs there)) xs past
  ]

  pick : (i : ℕ) (cs : List C) (acc : List X) (c : C) → find (λ d. number d == i) cs ≡ Some c → Apart number cs → filter (λ x. owner x == i) acc ≡ []
      → filter (λ x. owner x == i) (merged_onto stamp acc (labelled cs)) ≡ map (label i) (items c)
  pick i [] acc c found apart none = absurd cc
  pick i (d ∷ cs) acc c found apart none = elim (eqb_tells (number d) i) [
    | inl same ↦
        let is : Some d ≡ Some c = rw (same.0) at found in
        onto_none stamp (λ x. owner x == i) (merged_by stamp acc (map (label (number d)) (items d))) (labelled cs) (none_later i cs (λ e h eq. apart.0 e h (eq ∙ sym same.1)))
        ∙ none_of_first stamp (λ x. owner x == i) acc (map (label (number d)) (items d)) none
        ∙ subst (λ m. filter (λ x. owner x == i) (map (label m) (items d)) ≡ map (label i) (items d)) (sym same.1) (all_own i (items d))
        ∙ ap (λ (e : C). map (label i) (items e)) (some_inj is)
    | inr other ↦
        pick i cs (merged_by stamp acc (map (label (number d)) (items d))) c (rw (other.0) at found) apart.1
        (none_of_second stamp (λ x. owner x == i) acc (map (label (number d)) (items d)) (none_own i (number d) other.1 (items d)) ∙ none)
  ]

  -- what the merge has of one list is that list
  pub own_of : (i : ℕ) (cs : List C) (c : C) → find (λ d. number d == i) cs ≡ Some c → Apart number cs → filter (λ x. owner x == i) (merge_of cs) ≡ map (label i) (items c)
  own_of i cs c found apart = pick i cs [] c found apart refl

  in_map : (i : ℕ) (us : List A) (x : X) → Contains (map (label i) us) x → (a : A) × Contains us a × (label i a ≡ x)
  in_map i [] x h = none_in_nil x h
  in_map i (a ∷ us) x h = elim (contains_cons x (label i a) (map (label i) us) h) [
    | inl is ↦ (a, contains_head a us, is)
    | inr past ↦ let r = in_map i us x past in (r.0, contains_tail r.0 a us r.1, r.2)
  ]

  from_lists : (cs : List C) (xs : List X) (x : X) → Contains (labelled cs) xs → Contains xs x → (c : C) × Contains cs c × (a : A) × Contains (items c) a × (label (number c) a ≡ x)
  from_lists [] xs x h here = none_in_nil xs h
  from_lists (c ∷ cs) xs x h here = elim (contains_cons xs (map (label (number c)) (items c)) (labelled cs) h) [
    | inl is ↦ let r = in_map (number c) (items c) x (subst (λ z. Contains z x) (sym is) here) in (c, contains_head c cs, r.0, r.1, r.2)
    | inr past ↦ let r = from_lists cs xs x past here in (r.0, contains_tail r.0 c cs r.1, r.2, r.3, r.4)
  ]

  -- where what stands in the merge came from
  pub came_from : (cs : List C) (x : X) → Contains (merge_of cs) x → (c : C) × Contains cs c × (a : A) × Contains (items c) a × (label (number c) a ≡ x)
  came_from cs x h = elim (onto_has stamp [] (labelled cs) x h) [
    | inl none ↦ none_in_nil x none
    | inr some ↦ from_lists cs some.0 x some.1 some.2
  ]
