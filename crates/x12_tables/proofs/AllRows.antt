-- The rows of a table, as a query that asks for all of them shows them.
use Rattle.std.proofs.Common.{◌≡◌, ◌<◌, ◌∙◌, ℕ, List, [], ◌∷◌, length, map, filter, true, refl, sym, ap, subst, arith, slice_index_or, IsPermutation}
use Rattle.std.specs.List.{AllByRecursion, swap}
use Rattle.std.specs.Prelude.{slice_set}
use Rattle.std.proofs.lemmas.List.{length-map, map-set, get_or-map}
use Rattle.std.proofs.lemmas.List.Elements.{All-from_recursion, recursion_from_All}
use Rattle.std.proofs.lemmas.List.Sorted.{All-permutation, IsPermutation-refl, IsPermutation-trans, IsPermutation-swap, IsPermutation-keeps}
use Rattle.sqlite.specs.Order.{Row}
use Rattle.sqlite.specs.Query.{Output, IsAnswer, output}
use Rattle.sqlite.specs.Term.{Term}
use Rattle.sqlite.specs.Tree.{Trees}
use Rattle.sqlite_value.specs.declared.keys.Key.{Key}
use Rattle.sqlite_trees.proofs.ListLemmas.{map-map}
use Rattle.sql_rows.proofs.Selects.{one_table, answers}

module _ {X Y : Type 0} (f : X → Y) where
  map_swap : (xs : List X) (i j : ℕ) → i < length xs → j < length xs → swap (map f xs) i j ≡ map f (swap xs i j)
  map_swap [] i j low high = refl
  map_swap (x ∷ xs) i j low high =
      let l = x ∷ xs in
      let first : map f (slice_set l i (slice_index_or l j x)) ≡ slice_set (map f l) i (slice_index_or (map f l) j (f x)) = map-set f l i (slice_index_or l j x) ∙ ap (slice_set (map f l) i) (sym (get_or-map f l j x (f x) high)) in
      sym (map-set f (slice_set l i (slice_index_or l j x)) j (slice_index_or l i x) ∙ ap (λ w. slice_set w j (f (slice_index_or l i x))) first ∙ ap (slice_set (slice_set (map f l) i (slice_index_or (map f l) j (f x))) j) (sym (get_or-map f l i x (f x) low)))

  -- another order of what f makes of a list is what it makes of another order
  pub lifted : (xs : List X) (ys : List Y) → IsPermutation (map f xs) ys → (zs : List X) × IsPermutation xs zs × (ys ≡ map f zs)
  lifted xs ys = IsPermutation-keeps (map f xs) (λ l. (zs : List X) × IsPermutation xs zs × (l ≡ map f zs)) (xs, IsPermutation-refl xs, refl)
      (λ l i j low high h.
      let long : length l ≡ length h.0 = ap length h.2 ∙ length-map h.0 f in
      let moved = IsPermutation-swap h.0 (swap h.0 i j) i j (omega (arith, long, low)) (omega (arith, long, high)) refl in
      (swap h.0 i j, IsPermutation-trans xs h.0 (swap h.0 i j) h.1 moved, ap (λ k. swap k i j) h.2 ∙ map_swap h.0 i j (omega (arith, long, low)) (omega (arith, long, high))))
      ys

as_they_are : {X : Type 0} (xs : List X) → map (λ (x : X). x) xs ≡ xs
as_they_are [] = refl
as_they_are (x ∷ xs) = ap (λ more. x ∷ more) (as_they_are xs)

pub all_pass : {X : Type 0} (xs : List X) → filter (λ (x : X). true) xs ≡ xs
all_pass [] = refl
all_pass (x ∷ xs) = ap (λ more. x ∷ more) (all_pass xs)

-- what a query shows of a row
abbrev pub shown_by : ℕ → List Term → List (Term × Key) → Row → Row
shown_by tree project order r = (output (one_table tree [] project order) ([] ∷ r ∷ [])).1

module _ (tree : ℕ) (project : List Term) (order : List (Term × Key)) where
  abbrev put_out : Row → Output
  put_out r = output (one_table tree [] project order) ([] ∷ r ∷ [])

  -- all rows of a table are shown, in some order
  pub read_rows : (db : Trees) (rows : List Row) → IsAnswer (one_table tree [] project order) db [] rows
      → (all : List Row) × IsPermutation (db tree) all × (rows ≡ map (shown_by tree project order) all)
  read_rows db rows a =
      let same = subst (IsPermutation (db tree)) (sym (as_they_are (db tree))) (IsPermutation-refl (db tree)) in
      let got = answers [] tree [] project order (λ (r : Row). r) (λ r. true) put_out (λ r. refl) (λ r. refl) db (db tree) rows same a in
      let moved = subst (λ xs. IsPermutation (map put_out xs) got.0) (all_pass (db tree)) got.1 in
      let up = lifted put_out (db tree) got.0 moved in
      (up.0, up.1, got.3 ∙ ap (map (λ (o : Output). o.1)) up.2 ∙ map-map (λ (o : Output). o.1) put_out up.0)

-- what holds of each element of a list holds of each of a permutation
pub all_moved : {X : Type 0} (P : X → Type 0) (xs ys : List X) → IsPermutation xs ys → AllByRecursion P xs → AllByRecursion P ys
all_moved P xs ys moved h = recursion_from_All P ys (All-permutation P xs ys moved (All-from_recursion P xs h))
