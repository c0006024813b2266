-- A row whose key is free, where only the rows are known and not their order in the tree.
use Rattle.std.proofs.Common.{◌≡◌, ℕ, List, [], ◌∷◌, pos, map, filter, not, Bool, false, subst, inl, inr, IsPermutation}
use Rattle.std.specs.List.{AllByRecursion}
use Rattle.std.specs.declared.cmp.Ordering.{Ordering}
use Rattle.std.specs.declared.cmp.Ordering.TheVariants.{Less, Equal, Greater}
use Rattle.std.specs.Ordering.{is_eq, match_ordering}
use Rattle.std.proofs.lemmas.Bool.{cases_Bool}
use Rattle.std.proofs.lemmas.List.Sorted.{IsPermutation-refl, IsPermutation-sym, IsPermutation-trans, IsPermutation-cons, IsPermutation-middle}
use Rattle.sqlite.specs.Order.{Row, value_cmp}
use Rattle.sqlite.specs.declared.types.Value.TheVariants.{Int}
use Rattle.sqlite.specs.Tree.{rowid, put_row, has_rowid, without_rowid}
use Rattle.sqlite.specs.Edit.{is_taken}
use Rattle.sqlite_trees.proofs.ListLemmas.{IsPermutation-filter}
use Rattle.sql_rows.specs.Keyed.{with_id, RisesFrom}
use Rattle.sql_rows.proofs.Places.{step, one_edited}

abbrev IsFree : Row → List Row → Type 0
IsFree new rows = AllByRecursion (λ r. is_eq (value_cmp (rowid r) (rowid new)) ≡ false) rows

put_fresh : (new : Row) (rows : List Row) → IsFree new rows → IsPermutation (new ∷ rows) (put_row new rows)
put_fresh new [] free = IsPermutation-refl (new ∷ [])
put_fresh new (r ∷ rs) free = at (put_fresh new rs free.1) (value_cmp (rowid r) (rowid new)) free.0
  where
    at : IsPermutation (new ∷ rs) (put_row new rs) → (o : Ordering) → is_eq o ≡ false → IsPermutation (new ∷ r ∷ rs) (match_ordering o (r ∷ put_row new rs) (new ∷ rs) (new ∷ r ∷ rs))
    at rest Less h = IsPermutation-trans _ _ _ (IsPermutation-middle (new ∷ []) r rs) (IsPermutation-cons r _ _ rest)
    at rest Equal h = absurd cc
    at rest Greater h = IsPermutation-refl _

free_of : (new : Row) (rows : List Row) → is_taken rows new ≡ false → IsFree new rows
free_of new [] h = tt
free_of new (r ∷ rs) h = elim (cases_Bool (is_eq (value_cmp (rowid r) (rowid new)))) [
  | inl yes1 ↦ absurd (let e = rw yes1 at h in cc)
  | inr no1 ↦ (no1, free_of new rs (rw no1 at h))
]

-- INSERT of a row with a given key that is free
pub added : (new : Row) (rows front : List Row) → IsPermutation rows front → is_taken rows new ≡ false → IsPermutation (put_row new rows) (new ∷ front)
added new rows front moved free =
    IsPermutation-trans _ _ _ (IsPermutation-sym _ _ (put_fresh new rows (free_of new rows free))) (IsPermutation-cons new _ _ moved)

free_without : (n : ℕ) (rows : List Row) (columns : Row) → IsFree (Int (pos n) ∷ columns) (without_rowid (pos n) rows)
free_without n [] columns = tt
free_without n (r ∷ rs) columns = elim (cases_Bool (has_rowid (pos n) r)) [
  | inl yes1 ↦ rw yes1 (free_without n rs columns)
  | inr no1 ↦ rw no1 (no1, free_without n rs columns)
]

-- UPDATE of the one row that a test picks
pub updated : {X : Type 0} (enc : X → Row) (p : X → Bool) (upd : X → X) (n : ℕ) (at : List (ℕ × X)) (x : ℕ × X) (rows : List Row) → RisesFrom n at → IsPermutation rows (map (with_id enc) at)
    → filter (λ (x : ℕ × X). p x.1) at ≡ x ∷ [] → IsPermutation (put_row (with_id enc (x.0, upd x.1)) (without_rowid (pos x.0) rows)) (map (with_id enc) (map (step enc p upd) at))
updated enc p upd n at x rows rise moved one =
    let new = with_id enc (x.0, upd x.1) in
    let left = without_rowid (pos x.0) rows in
    let sorted = without_rowid (pos x.0) (map (with_id enc) at) in
    let out : IsPermutation (put_row new left) (new ∷ left) = IsPermutation-sym _ _ (put_fresh new left (free_without x.0 rows (enc (upd x.1)))) in
    let across : IsPermutation (new ∷ left) (new ∷ sorted) = IsPermutation-cons new _ _ (IsPermutation-filter (λ r. not (has_rowid (pos x.0) r)) rows (map (with_id enc) at) moved) in
    let back : IsPermutation (new ∷ sorted) (put_row new sorted) = put_fresh new sorted (free_without x.0 (map (with_id enc) at) (enc (upd x.1))) in
    subst (IsPermutation (put_row new left)) (one_edited enc p upd n at x rise one) (IsPermutation-trans _ _ _ out (IsPermutation-trans _ _ _ across back))
