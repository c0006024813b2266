-- The node of a number, once one became another.
use Rattle.std.specs.Prelude.{◌≡◌, ◌≢◌, ℕ, suc, ◌≤◌, ◌⊎◌, List, [], ◌∷◌, ◌++◌, false, Option, Some, None, IsSome, Contains, length, refl, map, option_map, option_to_list, slice_get}
use mathlib.Core.Path.{sym, ap, subst, ◌∙◌}
use mathlib.Core.Logic.{inl, inr}
use native.Mathlib.Omega.{arith}
use Rattle.std.specs.List.{list_any}
use Rattle.std.proofs.lemmas.List.{length-set}
use Rattle.std.proofs.lemmas.Option.{slice_get_within}
use Rattle.std.proofs.lemmas.Bool.Decides.{eqb_tells}
use Rattle.std.proofs.lemmas.List.Elements.{Contains-append_left, Contains-append_right}
use Rattle.x12_envelopes.specs.declared.party.Party.{Party}
use Rattle.x12_core.specs.Node.{Node, second_hub_node, party_of_node}
use Rattle.x12_numbers.proofs.Shelf.{false_is_never_true, contains_cons, contains_head, contains_mapped, none_in_nil, slice_get_set_same, some_inj}
use Rattle.x12_judge.specs.Agreement.{is_same_party}
use Rattle.x12_profile.proofs.PartyLemmas.{no_party}
use Rattle.x12_station.proofs.ListLemmas.{get_contains, get_set_other}
use Rattle.x12_world.specs.Nodes.{Nodes, node_at, with_node, home_of, party_at, all_nodes, by_number}

module _ (listed : List Node) (homes : List ℕ) (i : ℕ) (m n : Node) where
  abbrev those : Option Node → Nodes
  those second = record { listed = listed; homes = homes; second = second }

  same_by : (second : Option Node) → node_at (those second) i ≡ Some m → node_at (with_node (those second) i n) i ≡ Some n
  same_by None at = slice_get_set_same listed i n m at
  same_by (Some h) at = elim (eqb_tells i second_hub_node) [
    | inl e ↦ rw (e.0, e.0) refl
    | inr e ↦ rw (e.0, e.0) (slice_get_set_same listed i n m (rw (e.0) at at))
  ]

  other_by : (second : Option Node) (j : ℕ) → j ≢ i → node_at (with_node (those second) i n) j ≡ node_at (those second) j
  other_by None j apart = get_set_other listed i j n apart
  other_by (Some h) j apart = elim (eqb_tells i second_hub_node) [
    | inl e ↦ elim (eqb_tells j second_hub_node) [
      | inl f ↦ absurd (apart (f.1 ∙ sym e.1))
      | inr f ↦ rw (e.0, f.0) refl
    ]
    | inr e ↦ elim (eqb_tells j second_hub_node) [
      | inl f ↦ rw (e.0, f.0) refl
      | inr f ↦ rw (e.0, f.0) (get_set_other listed i j n apart)
    ]
  ]

  home_by : (second : Option Node) (j : ℕ) → home_of (with_node (those second) i n) j ≡ home_of (those second) j
  home_by None j = refl
  home_by (Some h) j = elim (eqb_tells i second_hub_node) [
    | inl e ↦ rw (e.0) refl
    | inr e ↦ rw (e.0) refl
  ]

module _ (ns : Nodes) (i : ℕ) (m n : Node) where
  -- there it is the new one
  pub node_same : node_at ns i ≡ Some m → node_at (with_node ns i n) i ≡ Some n
  node_same = same_by ns.listed ns.homes i m n ns.second

  -- and under each other number as it was
  pub node_other : (j : ℕ) → j ≢ i → node_at (with_node ns i n) j ≡ node_at ns j
  node_other = other_by ns.listed ns.homes i m n ns.second

  -- each node's hub is the same
  pub home_same : (j : ℕ) → home_of (with_node ns i n) j ≡ home_of ns j
  home_same = home_by ns.listed ns.homes i m n ns.second

  -- and so are the parties, where this one is
  pub parties_same : node_at ns i ≡ Some m → party_of_node n ≡ party_of_node m → (j : ℕ) → party_at (with_node ns i n) j ≡ party_at ns j
  parties_same at same j = elim (eqb_tells j i) [
    | inl e ↦ subst (λ k. party_at (with_node ns i n) k ≡ party_at ns k) (sym e.1) (rw (node_same at, at) (ap Some same))
    | inr e ↦ ap (option_map party_of_node) (node_other j e.1)
  ]

-- a node of some number is one of all
pub node_listed : (ns : Nodes) (i : ℕ) (n : Node) → node_at ns i ≡ Some n → Contains (all_nodes ns) n
node_listed ns i n at = by ns.second refl (subst (λ s. by_number i (slice_get ns.listed i) s s ≡ Some n) refl at)
  where
    by : (second : Option Node) → ns.second ≡ second → by_number i (slice_get ns.listed i) second second ≡ Some n → Contains (ns.listed ++ option_to_list second) n
    by None is at = Contains-append_left ns.listed [] n (get_contains ns.listed i n at)
    by (Some h) is at = elim (eqb_tells i second_hub_node) [
      | inl e ↦ Contains-append_right ns.listed (h ∷ []) n (let same : Some h ≡ Some n = rw (e.0) at at in subst (λ z. Contains (h ∷ []) z) (some_inj same) (contains_head h []))
      | inr e ↦ Contains-append_left ns.listed (h ∷ []) n (get_contains ns.listed i n (rw (e.0) at at))
    ]

-- what is under a function was under it
pub option_mapped : {A B : Type 0} (f : A → B) (o : Option A) (y : B) → option_map f o ≡ Some y → (x : A) × (o ≡ Some x) × (f x ≡ y)
option_mapped f None y e = absurd cc
option_mapped f (Some x) y e = (x, refl, some_inj e)

-- what is contained has a place
pub contains_get : {A : Type 0} (xs : List A) (x : A) → Contains xs x → (k : ℕ) × (slice_get xs k ≡ Some x)
contains_get [] x h = none_in_nil x h
contains_get (y ∷ xs) x h = elim (contains_cons x y xs h) [
  | inl same ↦ (0, ap Some same)
  | inr later ↦ let rest = contains_get xs x later in (suc rest.0, rest.1)
]

-- no node has the party that none of all has
pub unnamed : (ns : Nodes) (q : Party) → list_any (is_same_party q) (map party_of_node (all_nodes ns)) ≡ false → (k : ℕ) → ¬ (party_at ns k ≡ Some q)
unnamed ns q out k at =
    let found = option_mapped party_of_node (node_at ns k) q at in
    let has = subst (Contains (map party_of_node (all_nodes ns))) found.2 (contains_mapped party_of_node (all_nodes ns) found.0 (node_listed ns k found.0 found.1)) in
    let place = contains_get (map party_of_node (all_nodes ns)) q has in
    no_party q (map party_of_node (all_nodes ns)) place.0 out place.1

-- where there are numbers enough, who is listed is found under its place
pub listed_at : (ns : Nodes) → (IsSome ns.second → length ns.listed ≤ 17) → (k : ℕ) (n : Node) → slice_get ns.listed k ≡ Some n → node_at ns k ≡ Some n
listed_at ns few k n at = by ns.second few
  where
    by : (second : Option Node) → (IsSome second → length ns.listed ≤ 17) → by_number k (slice_get ns.listed k) second second ≡ Some n
    by None few = at
    by (Some h) few = elim (eqb_tells k second_hub_node) [
      | inl e ↦ let within = slice_get_within ns.listed k n at in let le = few refl in let is = e.1 in absurd (omega (arith, within, le, is))
      | inr e ↦ rw (e.0) at
    ]

-- a node that isn't the second hub is listed
pub at_listed : (ns : Nodes) (k : ℕ) (n : Node) → node_at ns k ≡ Some n → ¬ (ns.second ≡ Some n) → slice_get ns.listed k ≡ Some n
at_listed ns k n at not_second = by ns.second at not_second
  where
    by : (second : Option Node) → by_number k (slice_get ns.listed k) second second ≡ Some n → ¬ (second ≡ Some n) → slice_get ns.listed k ≡ Some n
    by None at other = at
    by (Some h) at other = elim (eqb_tells k second_hub_node) [
      | inl e ↦ absurd (other (rw (e.0) at at))
      | inr e ↦ rw (e.0) at at
    ]

-- there are numbers enough still
pub few_after : (ns : Nodes) (i : ℕ) (n : Node) → (IsSome ns.second → length ns.listed ≤ 17) → IsSome (with_node ns i n).second → length (with_node ns i n).listed ≤ 17
few_after ns i n few some = by ns.second few some
  where
    by : (second : Option Node) → (IsSome second → length ns.listed ≤ 17) → IsSome (with_node (record ns { second = second }) i n).second → length (with_node (record ns { second = second }) i n).listed ≤ 17
    by None few some = false_is_never_true some
    by (Some h) few some = elim (eqb_tells i second_hub_node) [
      | inl e ↦ rw (e.0) (few refl)
      | inr e ↦ rw (e.0, length-set ns.listed i n) (few refl)
    ]

-- the second hub is as it was, or what was put there
pub second_cases : (ns : Nodes) (i : ℕ) (n m : Node) → (with_node ns i n).second ≡ Some m → (ns.second ≡ Some m) ⊎ ((m ≡ n) × (old : Node) × (ns.second ≡ Some old) × (node_at ns i ≡ Some old))
second_cases ns i n m is = by ns.second is
  where
    by : (second : Option Node) → (with_node (record ns { second = second }) i n).second ≡ Some m → (second ≡ Some m) ⊎ ((m ≡ n) × (old : Node) × (second ≡ Some old) × (node_at (record ns { second = second }) i ≡ Some old))
    by None is = inl is
    by (Some h) is = elim (eqb_tells i second_hub_node) [
      | inl e ↦ let new : Some n ≡ Some m = rw (e.0) at is in inr (sym (some_inj new), h, refl, rw (e.0) refl)
      | inr e ↦ inl (rw (e.0) at is)
    ]
