-- A DELETE, however many rows its WHERE passes.
use Rattle.std.proofs.Common.{◌≡◌, ◌||◌, ℕ, ℤ, pos, List, [], ◌∷◌, map, filter, Bool, true, false, not, refl, sym, ap, subst, ◌∙◌, inl, inr, arith, IsPermutation}
use Rattle.std.specs.List.{list_any}
use Rattle.std.proofs.lemmas.Bool.{cases_Bool}
use Rattle.std.proofs.lemmas.List.Sorted.{IsPermutation-map, list_any-IsPermutation}
use Rattle.sqlite_trees.proofs.ListLemmas.{IsPermutation-filter}
use Rattle.sqlite.specs.declared.types.Value.TheVariants.{Int}
use Rattle.sqlite.specs.Order.{Row}
use Rattle.sqlite.specs.Tree.{Trees, rowid, has_rowid, without_rowid}
use Rattle.sqlite.specs.Table.{Table}
use Rattle.sqlite.specs.Edit.{edit_of, edited, without_all, id_in}
use Rattle.sqlite.specs.Rowids.TheVariants.{Given}
use Rattle.sqlite_rules.specs.Calls.{ids_of}
use Rattle.sql_rows.specs.Keyed.{with_id, RisesFrom}
use Rattle.sql_rows.proofs.Places.{less, same, lower, gone_none}

abbrev gone_in : List ℤ → Row → Bool
gone_in ids r = list_any (λ id. has_rowid id r) ids

twice : (p q : Row → Bool) (rows : List Row) → filter (λ r. not (q r)) (filter (λ r. not (p r)) rows) ≡ filter (λ r. not (p r || q r)) rows
twice p q [] = refl
twice p q (r ∷ rows) = elim (cases_Bool (p r)) [
  | inl yes1 ↦ rw (yes1, twice p q rows) refl
  | inr no1 ↦ elim (cases_Bool (q r)) [
    | inl yes2 ↦ rw (no1, yes2, twice p q rows) refl
    | inr no2 ↦ rw (no1, no2, twice p q rows) refl
  ]
]

all_kept : (rows : List Row) → rows ≡ filter (λ (r : Row). true) rows
all_kept [] = refl
all_kept (r ∷ rows) = ap (λ more. r ∷ more) (all_kept rows)

alike : (p q : Row → Bool) (rows : List Row) → ((r : Row) → p r ≡ q r) → filter p rows ≡ filter q rows
alike p q [] same = refl
alike p q (r ∷ rows) same = rw (same r, alike p q rows same) refl

without_all_is : (ids : List ℤ) (rows : List Row) → without_all rows ids ≡ filter (λ r. not (gone_in ids r)) rows
without_all_is [] rows = all_kept rows
without_all_is (id ∷ ids) rows = without_all_is ids (without_rowid id rows) ∙ twice (has_rowid id) (gone_in ids) rows

module _ {X : Type 0} (enc : X → Row) where
  abbrev ids : List (ℕ × X) → List ℤ
  ids = map (λ (x : ℕ × X). pos x.0)

  none_of : (n : ℕ) (y : X) (ys : List (ℕ × X)) → RisesFrom n ys → gone_in (ids ys) (with_id enc (n, y)) ≡ false
  none_of n y [] rise = refl
  none_of n y (x ∷ ys) rise = rw (less n x.0 rise.0) (none_of n y ys (lower enc n x.0 ys (omega (arith, rise.0)) rise.1))

  pub filter_rises : (p : ℕ × X → Bool) (n : ℕ) (at : List (ℕ × X)) → RisesFrom n at → RisesFrom n (filter p at)
  filter_rises p n [] rise = tt
  filter_rises p n (x ∷ at) rise = elim (cases_Bool (p x)) [
    | inl yes1 ↦ rw yes1 (rise.0, filter_rises p x.0 at rise.1)
    | inr no1 ↦ rw no1 (lower enc n x.0 (filter p at) (omega (arith, rise.0)) (filter_rises p x.0 at rise.1))
  ]

  removed : (p : ℕ × X → Bool) (n : ℕ) (at : List (ℕ × X)) → RisesFrom n at
      → filter (λ r. not (gone_in (ids (filter p at)) r)) (map (with_id enc) at) ≡ map (with_id enc) (filter (λ (x : ℕ × X). not (p x)) at)
  removed p n [] rise = refl
  removed p n (z ∷ at) rise = elim (cases_Bool (p z)) [
    | inl yes1 ↦ (let ys = filter p at in let rest = gone_in (ids ys) in
        let first : filter p (z ∷ at) ≡ z ∷ ys = rw yes1 refl in
        ap (λ fs. filter (λ r. not (gone_in (ids fs) r)) (map (with_id enc) (z ∷ at))) first
        ∙ rw (yes1, same z.0) (sym (twice (has_rowid (pos z.0)) rest (map (with_id enc) at)) ∙ ap (filter (λ r. not (rest r))) (gone_none enc z.0 at rise.1) ∙ removed p z.0 at rise.1))
    | inr no1 ↦ (let ys = filter p at in
        let first : filter p (z ∷ at) ≡ ys = rw no1 refl in
        ap (λ fs. filter (λ r. not (gone_in (ids fs) r)) (map (with_id enc) (z ∷ at))) first
        ∙ rw (no1, none_of z.0 z.1 ys (filter_rises p z.0 at rise.1)) (ap (λ more. with_id enc z ∷ more) (removed p z.0 at rise.1)))
  ]

  abbrev pub id_row : ℕ × X → Row
  id_row x = Int (pos x.0) ∷ []

  their_ids : (ys : List (ℕ × X)) → map (λ r. id_in (rowid r)) (map id_row ys) ≡ ids ys
  their_ids [] = refl
  their_ids (y ∷ ys) = ap (λ more. pos y.0 ∷ more) (their_ids ys)

  -- a DELETE, by its query's answer
  pub deleted : (db : Trees) (table : Table) (p : ℕ × X → Bool) (at : List (ℕ × X)) (rows : List Row) → IsPermutation (db table.tree) (map (with_id enc) at) → RisesFrom 0 at
      → IsPermutation (map id_row (filter p at)) rows → IsPermutation (edited db (edit_of db table (ids_of rows) Given 0 [])) (map (with_id enc) (filter (λ (x : ℕ × X). not (p x)) at))
  deleted db table p at rows same_rows rise picked =
      let ys = filter p at in
      let moved : IsPermutation (ids ys) (ids_of rows) = subst (λ xs. IsPermutation xs (ids_of rows)) (their_ids ys) (IsPermutation-map (λ r. id_in (rowid r)) (map id_row ys) rows picked) in
      let left : List Row → List Row = filter (λ r. not (gone_in (ids ys) r)) in
      let is : edited db (edit_of db table (ids_of rows) Given 0 []) ≡ left (db table.tree) =
      without_all_is (ids_of rows) (db table.tree)
      ∙ alike (λ r. not (gone_in (ids_of rows) r)) (λ r. not (gone_in (ids ys) r)) (db table.tree) (λ r. ap not (sym (list_any-IsPermutation (λ id. has_rowid id r) (ids ys) (ids_of rows) moved))) in
      let across : IsPermutation (left (db table.tree)) (left (map (with_id enc) at)) = IsPermutation-filter (λ r. not (gone_in (ids ys) r)) _ _ same_rows in
      subst (λ rs. IsPermutation rs (map (with_id enc) (filter (λ (x : ℕ × X). not (p x)) at))) (sym is) (subst (IsPermutation (left (db table.tree))) (removed p 0 at rise) across)
