-- The cells of a network: under each number the node is that of the number's cell.
use Rattle.std.proofs.Common.{◌≡◌, ◌≢◌, ℕ, zero, suc, ◌+◌, ◌<◌, ◌≤◌, List, [], ◌∷◌, ◌++◌, Bool, true, false, ◌==◌, if◌then◌else◌, Option, Some, None, Contains, find, map, length, refl, sym, ap, subst, ◌∙◌, inl, inr, arith}
use Rattle.std.specs.Prelude.{get_or, option_map, option_to_list, slice_get}
use Rattle.std.proofs.Common.{ne_eqb}
use Rattle.std.proofs.lemmas.Bool.{and_parts}
use Rattle.std.proofs.lemmas.Bool.Decides.{eqb_tells, nat_tests}
use Rattle.std.proofs.lemmas.List.{append-nil}
use Rattle.std.proofs.lemmas.Option.{slice_get-map, slice_get_past, slice_get_within}
use Rattle.x12_core.specs.Node.{Node, hub_node, second_hub_node}
use Rattle.x12_nodes.specs.Cell.{CellView}
use Rattle.x12_nodes.specs.Cells.{cell_at, nodes_by, split}
use Rattle.x12_nodes.specs.Check.{are_numbered}
use Rattle.x12_nodes.proofs.OwnLemmas.{Apart, apart_push}
use Rattle.x12_numbers.proofs.Shelf.{eq_itself, some_inj}
use Rattle.x12_station.proofs.SeqLemmas.{find_kept, find_pushed}
use Rattle.x12_world.proofs.NodesLemmas.{contains_get}
use Rattle.x12_world.specs.Nodes.{home_of, node_at}

pub same_number : (a b : ℕ) → (a == b) ≡ true → a ≡ b
same_number a b e = grind (arith, nat_tests)

abbrev pub number_of : CellView → ℕ
number_of c = c.site.node

abbrev Parts : Type 0
Parts = List CellView × Option CellView

abbrev either : Bool → Parts → Parts → Parts
either t a b = if t then a else b

abbrev whole : Parts → List CellView
whole s = s.0 ++ option_to_list s.1

-- what is in front and what is last is all
pub split_whole : (cells : List CellView) → cells ≡ (split cells).0 ++ option_to_list (split cells).1
split_whole [] = refl
split_whole (c ∷ []) = by (c.site.node == second_hub_node)
  where
    by : (t : Bool) → c ∷ [] ≡ whole (either t ([], Some c) (c ∷ [], None))
    by true = refl
    by false = refl
split_whole (c ∷ d ∷ cells) = ap (λ l. c ∷ l) (split_whole (d ∷ cells))

pub split_second : (cells : List CellView) (d : CellView) → (split cells).1 ≡ Some d → d.site.node ≡ second_hub_node
split_second [] d is = absurd cc
split_second (c ∷ []) d is = elim (eqb_tells c.site.node second_hub_node) [
  | inl same ↦ let e : Some c ≡ Some d = rw (same.0) at is in ap number_of (sym (some_inj e)) ∙ same.1
  | inr apart ↦ absurd (none (rw (apart.0) at is))
]
  where
    none : None ≡ Some d → ⊥
    none e = cc
split_second (c ∷ e ∷ cells) d is = split_second (e ∷ cells) d is

-- how it is found
abbrev behind : CellView → Parts → Parts
behind y s = (y ∷ s.0, s.1)

pub split_push : (xs : List CellView) (x : CellView) → split (xs ++ x ∷ []) ≡ either (x.site.node == second_hub_node) (xs, Some x) (xs ++ x ∷ [], None)
split_push [] x = refl
split_push (y ∷ []) x = by (x.site.node == second_hub_node)
  where
    by : (t : Bool) → behind y (either t ([], Some x) (x ∷ [], None)) ≡ either t (y ∷ [], Some x) (y ∷ x ∷ [], None)
    by true = refl
    by false = refl
split_push (y ∷ z ∷ xs) x =
    ap (behind y) (split_push (z ∷ xs) x) ∙ by (x.site.node == second_hub_node)
  where
    by : (t : Bool) → behind y (either t (z ∷ xs, Some x) (z ∷ xs ++ x ∷ [], None)) ≡ either t (y ∷ z ∷ xs, Some x) (y ∷ z ∷ xs ++ x ∷ [], None)
    by true = refl
    by false = refl

pub split_as_second : (front : List CellView) (last : CellView) → last.site.node ≡ second_hub_node → split (front ++ last ∷ []) ≡ (front, Some last)
split_as_second front last is = let e : (last.site.node == second_hub_node) ≡ true = rw is refl in split_push front last ∙ rw e refl

pub split_as_listed : (front : List CellView) (last : CellView) → last.site.node ≢ second_hub_node → split (front ++ last ∷ []) ≡ (front ++ last ∷ [], None)
split_as_listed front last apart = split_push front last ∙ rw (ne_eqb last.site.node second_hub_node apart) refl

-- those that have the numbers from one on
pub number_at_place : (n i : ℕ) (cells : List CellView) (c : CellView) → are_numbered n cells ≡ true → slice_get cells i ≡ Some c → c.site.node ≡ n + i
number_at_place n i [] c e at = absurd cc
number_at_place n zero (d ∷ cells) c e at =
    let parts = and_parts (d.site.node == n) (are_numbered (n + 1) cells) e in
    let here : c.site.node ≡ d.site.node = ap number_of (some_inj (sym at)) in
    let same = same_number d.site.node n parts.0 in
    here ∙ (let z : n ≡ n + 0 = omega arith in same ∙ z)
number_at_place n (suc i) (d ∷ cells) c e at =
    let parts = and_parts (d.site.node == n) (are_numbered (n + 1) cells) e in
    let rest : c.site.node ≡ (n + 1) + i = number_at_place (n + 1) i cells c parts.1 at in
    rest ∙ (let z : (n + 1) + i ≡ n + suc i = omega arith in z)

-- are found at their places
pub found_at_place : (n i : ℕ) (cells : List CellView) → are_numbered n cells ≡ true → find (λ (c : CellView). c.site.node == n + i) cells ≡ slice_get cells i
found_at_place n i [] e = refl
found_at_place n zero (d ∷ cells) e =
    let parts = and_parts (d.site.node == n) (are_numbered (n + 1) cells) e in
    let same : d.site.node ≡ n + 0 = let z : n ≡ n + 0 = omega arith in same_number d.site.node n parts.0 ∙ z in
    let here : (d.site.node == n + 0) ≡ true = rw same (eq_itself (n + 0)) in
    rw here refl
found_at_place n (suc i) (d ∷ cells) e =
    let parts = and_parts (d.site.node == n) (are_numbered (n + 1) cells) e in
    let is = same_number d.site.node n parts.0 in
    let far : (d.site.node == n + suc i) ≡ false = ne_eqb d.site.node (n + suc i) (λ z. absurd (omega (arith, z, is))) in
    let place : n + suc i ≡ (n + 1) + i = omega arith in
    rw far (ap (λ k. find (λ (c : CellView). c.site.node == k) cells) place ∙ found_at_place (n + 1) i cells parts.1)

apart_from : (n : ℕ) (cells : List CellView) → are_numbered n cells ≡ true → (d : CellView) → Contains cells d → n ≤ d.site.node
apart_from n cells e d h =
    let place = contains_get cells d h in
    let is = number_at_place n place.0 cells d e place.1 in
    omega (arith, is)

apart_numbered : (n : ℕ) (cells : List CellView) → are_numbered n cells ≡ true → Apart number_of cells
apart_numbered n [] e = tt
apart_numbered n (c ∷ cells) e =
    let parts = and_parts (c.site.node == n) (are_numbered (n + 1) cells) e in
    let is = same_number c.site.node n parts.0 in
    ((λ d h same. let above = apart_from (n + 1) cells parts.1 d h in absurd (omega (arith, above, is, same))), apart_numbered (n + 1) cells parts.1)

mapped_or : (f : CellView → ℕ) (cells : List CellView) (i k : ℕ) (c : CellView) → slice_get cells i ≡ Some c → get_or (map f cells) i k ≡ f c
mapped_or f [] i k c at = absurd cc
mapped_or f (d ∷ cells) zero k c at = ap f (some_inj at)
mapped_or f (d ∷ cells) (suc i) k c at = mapped_or f cells i k c at

module _ (cells : List CellView) (e : are_numbered 0 (split cells).0 ≡ true) (few : length (split cells).0 ≤ 17) where
  abbrev listed : List CellView
  listed = (split cells).0

  by_place : (i : ℕ) → find (λ (c : CellView). c.site.node == i) listed ≡ slice_get listed i
  by_place i = let z : i ≡ 0 + i = omega arith in ap (λ k. find (λ (c : CellView). c.site.node == k) listed) z ∙ found_at_place 0 i listed e

  abbrev cell_by : ℕ → Option CellView → Option CellView
  cell_by i None = slice_get listed i
  cell_by i (Some d) = if i == second_hub_node then Some d else slice_get listed i

  cell_is : (i : ℕ) (second : Option CellView) → (split cells).1 ≡ second → cell_at cells i ≡ cell_by i second
  cell_is i None is = ap (λ cs. cell_at cs i) (split_whole cells ∙ ap (λ o. listed ++ option_to_list o) is ∙ append-nil listed) ∙ by_place i
  cell_is i (Some d) is =
      let there = split_second cells d is in
      let p : CellView → Bool = λ (c : CellView). c.site.node == i in
      ap (λ cs. cell_at cs i) (split_whole cells ∙ ap (λ o. listed ++ option_to_list o) is)
      ∙ elim (eqb_tells i second_hub_node) [
        | inl same ↦
            let past : length listed ≤ i = let at = same.1 in omega (arith, at, few) in
            let passes : (d.site.node == i) ≡ true = rw (there ∙ sym same.1) (eq_itself i) in
            find_pushed p listed d (by_place i ∙ slice_get_past listed i past) passes ∙ rw (same.0) refl
        | inr apart ↦ find_kept p listed d (ne_eqb d.site.node i (λ z. apart.1 (sym z ∙ there))) ∙ by_place i ∙ rw (apart.0) refl
      ]

  -- the node under a number is its cell's
  pub node_is : (f : CellView → Node) (i : ℕ) → node_at (nodes_by f cells) i ≡ option_map f (cell_at cells i)
  node_is f i = by (split cells).1 refl
    where
      by : (second : Option CellView) → (split cells).1 ≡ second → node_at (nodes_by f cells) i ≡ option_map f (cell_at cells i)
      by None is =
          let there : cell_at cells i ≡ slice_get listed i = cell_is i None is in
          rw (is, there) (slice_get-map f listed i)
      by (Some d) is = elim (eqb_tells i second_hub_node) [
        | inl same ↦
            let last : cell_by i (Some d) ≡ Some d = rw (same.0) refl in
            let there : cell_at cells i ≡ Some d = cell_is i (Some d) is ∙ last in
            rw (is, same.0, there) refl
        | inr apart ↦
            let front : cell_by i (Some d) ≡ slice_get listed i = rw (apart.0) refl in
            let there : cell_at cells i ≡ slice_get listed i = cell_is i (Some d) is ∙ front in
            rw (is, apart.0, there) (slice_get-map f listed i)
      ]

  -- and it is at the cell's hub
  pub home_is : (f : CellView → Node) → ((d : CellView) → (split cells).1 ≡ Some d → d.site.hub ≡ second_hub_node) → (i : ℕ) (c : CellView) → cell_at cells i ≡ Some c → home_of (nodes_by f cells) i ≡ c.site.hub
  home_is f own i c at = by (split cells).1 refl
    where
      by : (second : Option CellView) → (split cells).1 ≡ second → home_of (nodes_by f cells) i ≡ c.site.hub
      by None is = rw is (mapped_or (λ (d : CellView). d.site.hub) listed i hub_node c (sym (cell_is i None is) ∙ at))
      by (Some d) is = elim (eqb_tells i second_hub_node) [
        | inl same ↦
            let last : cell_by i (Some d) ≡ Some d = rw (same.0) refl in
            let mine : Some d ≡ Some c = sym (cell_is i (Some d) is ∙ last) ∙ at in
            rw (is, same.0) (sym (own d is) ∙ ap (λ (z : CellView). z.site.hub) (some_inj mine))
        | inr apart ↦
            let front : cell_by i (Some d) ≡ slice_get listed i = rw (apart.0) refl in
            let there : slice_get listed i ≡ Some c = sym (cell_is i (Some d) is ∙ front) ∙ at in
            rw (is, apart.0) (mapped_or (λ (z : CellView). z.site.hub) listed i hub_node c there)
      ]

  -- no two cells have one number
  pub cells_apart : Apart number_of cells
  cells_apart = by (split cells).1 refl
    where
      below : (d : CellView) → Contains listed d → d.site.node < 17
      below d h =
          let place = contains_get listed d h in
          let is = number_at_place 0 place.0 listed d e place.1 in
          let within = slice_get_within listed place.0 d place.1 in
          omega (arith, is, within, few)

      by : (second : Option CellView) → (split cells).1 ≡ second → Apart number_of cells
      by None is = subst (Apart number_of) (sym (split_whole cells ∙ ap (λ o. listed ++ option_to_list o) is ∙ append-nil listed)) (apart_numbered 0 listed e)
      by (Some d) is = subst (Apart number_of) (sym (split_whole cells ∙ ap (λ o. listed ++ option_to_list o) is))
          (apart_push number_of listed d (apart_numbered 0 listed e) (λ b h same. let low = below b h in let there = split_second cells d is in absurd (omega (arith, low, there, same))))
