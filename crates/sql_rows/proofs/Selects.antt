-- What a SELECT over one table answers, where the table's rows stand for a list.
use Rattle.std.proofs.Common.{◌≡◌, ◌≤◌, ℕ, pos, negsuc, List, [], ◌∷◌, length, map, filter, flat_map, Bool, false, if◌then◌else◌, None, refl, ap, subst, ◌∙◌, inl, inr, arith, IsPermutation, IsSorted}
use Rattle.std.specs.List.{list_all}
use Rattle.std.proofs.lemmas.Bool.{cases_Bool}
use Rattle.std.proofs.lemmas.List.Sorted.{length_permutation, IsPermutation-map, IsPermutation-sym, IsPermutation-trans}
use Rattle.sqlite.specs.declared.types.Value.TheVariants.{Int}
use Rattle.sqlite.specs.Order.{Row}
use Rattle.sqlite.specs.Tree.{Trees}
use Rattle.sqlite.specs.Term.{Term, lit, holds}
use Rattle.sqlite.specs.Query.{Query, inner, end, Output, output, output_cmp, IsAnswer}
use Rattle.sqlite_value.specs.declared.keys.Key.{Key}
use Rattle.sqlite_trees.proofs.ListLemmas.{IsPermutation-filter, map-map}
use Rattle.sqlite.proofs.Callers.{one_permutation}

abbrev pub one_table : ℕ → List Term → List Term → List (Term × Key) → Query
one_table tree wheres project order = record {
  from = inner tree end;
  filter = wheres;
  group = None;
  project = project;
  distinct = false;
  collations = [];
  order = order;
  limit = lit (Int (negsuc 0));
  offset = lit (Int (pos 0));
}

module _ (params : Row) (tree : ℕ) (wheres project : List Term) (order : List (Term × Key)) where
  abbrev query : Query
  query = one_table tree wheres project order

  abbrev passes : Row → Bool
  passes r = list_all (holds (params ∷ r ∷ [])) wheres

  abbrev put_out : Row → Output
  put_out r = output query (params ∷ r ∷ [])

  matched : (rows : List Row) → flat_map (λ r. if list_all (holds (params ∷ r ∷ [])) wheres then (params ∷ r ∷ []) ∷ [] else []) rows ≡ map (λ r. params ∷ r ∷ []) (filter passes rows)
  matched [] = refl
  matched (r ∷ rows) = elim (cases_Bool (passes r)) [
    | inl yes1 ↦ rw (yes1, matched rows) refl
    | inr no1 ↦ rw (no1, matched rows) refl
  ]

  module _ {X : Type 0} (enc : X → Row) (p : X → Bool) (out : X → Output) (tests : (x : X) → passes (enc x) ≡ p x) (shows : (x : X) → put_out (enc x) ≡ out x) where
    moved_out : (xs : List X) → map put_out (filter passes (map enc xs)) ≡ map out (filter p xs)
    moved_out [] = refl
    moved_out (x ∷ xs) = elim (cases_Bool (p x)) [
      | inl yes1 ↦ rw (tests x, yes1, shows x, moved_out xs) refl
      | inr no1 ↦ rw (tests x, no1, moved_out xs) refl
    ]

    pub answers : (db : Trees) (xs : List X) (rows : List Row) → IsPermutation (db tree) (map enc xs) → IsAnswer query db params rows
        → (ordered : List Output) × IsPermutation (map out (filter p xs)) ordered × IsSorted (output_cmp query) ordered × (rows ≡ map (λ o. o.1) ordered)
    answers db xs rows same a =
        let staged : a.staged ≡ map (λ r. params ∷ r ∷ []) (filter passes (db tree)) = a.grouped ∙ matched (db tree) in
        let kept : a.kept ≡ map put_out (filter passes (db tree)) = a.distinct ∙ ap (map (output query)) staged ∙ map-map (output query) (λ r. params ∷ r ∷ []) (filter passes (db tree)) in
        let picked : IsPermutation (filter passes (map enc xs)) (filter passes (db tree)) = IsPermutation-filter passes _ _ (IsPermutation-sym _ _ same) in
        let moved : IsPermutation (map out (filter p xs)) (map put_out (filter passes (db tree))) =
        subst (λ os. IsPermutation os (map put_out (filter passes (db tree)))) (moved_out xs) (IsPermutation-map put_out _ _ picked) in
        (a.ordered, IsPermutation-trans _ _ _ moved (subst (λ k. IsPermutation k a.ordered) kept a.same), a.sorted, a.shown)

pub few : {A : Type 0} (xs ys : List A) → length xs ≤ 1 → IsPermutation xs ys → ys ≡ xs
few [] [] low h = refl
few [] (y ∷ ys) low h = absurd (omega (arith, length_permutation [] (y ∷ ys) h))
few (x ∷ []) ys low h = one_permutation x ys h
few (x ∷ y ∷ more) ys low h = absurd (omega arith)
