-- Rows with rising rowids, and what an edit by a key makes of them.
use Rattle.std.proofs.Common.{◌≡◌, ◌≤◌, ◌<◌, ℕ, pos, List, [], ◌∷◌, length, map, filter, Bool, if◌then◌else◌, refl, sym, ap, subst, ◌∙◌, inl, inr, arith}
use Rattle.std.proofs.lemmas.Bool.{cases_Bool}
use Rattle.std.proofs.lemmas.Int.{ints}
use Rattle.std.proofs.lemmas.Bool.Decides.{nat_tests}
use Rattle.std.specs.declared.cmp.Ordering.TheVariants.{Less, Equal, Greater}
use Rattle.sqlite.specs.declared.types.Value.TheVariants.{Int}
use Rattle.sqlite.specs.Order.{Row, value_cmp}
use Rattle.sqlite.specs.Tree.{put_row, without_rowid, Trees}
use Rattle.sqlite.specs.Table.{Table}
use Rattle.sqlite.specs.Edit.{edit_of, edited}
use Rattle.sqlite.specs.Cast.{cast_row}
use Rattle.sqlite.specs.Rowids.TheVariants.{Given}
use Rattle.sqlite_rules.specs.Calls.{ids_of}
use Rattle.sql_rows.specs.Keyed.{with_id, RisesFrom}
use Rattle.sqlite_value.proofs.OrderLemmas.{value_cmp-Int}

pub less : (m n : ℕ) → m < n → value_cmp (Int (pos m)) (Int (pos n)) ≡ Less
less m n h = value_cmp-Int (pos m) (pos n) ∙ grind (arith, ints, nat_tests)

pub same : (n : ℕ) → value_cmp (Int (pos n)) (Int (pos n)) ≡ Equal
same n = value_cmp-Int (pos n) (pos n) ∙ grind (arith, ints, nat_tests)

pub more : (m n : ℕ) → n < m → value_cmp (Int (pos m)) (Int (pos n)) ≡ Greater
more m n h = value_cmp-Int (pos m) (pos n) ∙ grind (arith, ints, nat_tests)

module _ {X : Type 0} (enc : X → Row) where
  pub lower : (m n : ℕ) (at : List (ℕ × X)) → m ≤ n → RisesFrom n at → RisesFrom m at
  lower m n [] h rise = tt
  lower m n (x ∷ at) h rise = (omega (arith, rise.0, h), rise.1)

  -- no row has a rowid that is below all
  pub gone_none : (n : ℕ) (at : List (ℕ × X)) → RisesFrom n at → without_rowid (pos n) (map (with_id enc) at) ≡ map (with_id enc) at
  gone_none n [] rise = refl
  gone_none n (x ∷ at) rise = rw (more x.0 n rise.0, gone_none n at (lower n x.0 at (omega (arith, rise.0)) rise.1)) refl

  put_first : (n : ℕ) (y : X) (at : List (ℕ × X)) → RisesFrom n at → put_row (with_id enc (n, y)) (map (with_id enc) at) ≡ with_id enc (n, y) ∷ map (with_id enc) at
  put_first n y [] rise = refl
  put_first n y (x ∷ at) rise = rw (more x.0 n rise.0) refl

  -- what a filter picks is above
  above : (p : X → Bool) (n : ℕ) (at : List (ℕ × X)) (x : ℕ × X) (ys : List (ℕ × X)) → RisesFrom n at → filter (λ (x : ℕ × X). p x.1) at ≡ x ∷ ys → n < x.0
  above p n [] x ys rise is = absurd cc
  above p n (z ∷ at) x ys rise is = elim (cases_Bool (p z.1)) [
    | inl yes1 ↦ (let e : z ≡ x = (let first = rw yes1 at is in cc) in subst (λ (w : ℕ × X). n < w.0) e rise.0)
    | inr no1 ↦ omega (arith, above p z.0 at x ys rise.1 (rw no1 at is), rise.0)
  ]

  abbrev pub step : (X → Bool) → (X → X) → ℕ × X → ℕ × X
  step p upd x = (x.0, if p x.1 then upd x.1 else x.1)

  pub unmoved : (p : X → Bool) (upd : X → X) (at : List (ℕ × X)) → filter (λ (x : ℕ × X). p x.1) at ≡ [] → map (step p upd) at ≡ at
  unmoved p upd [] is = refl
  unmoved p upd (z ∷ at) is = elim (cases_Bool (p z.1)) [
    | inl yes1 ↦ absurd (let first = rw yes1 at is in cc)
    | inr no1 ↦ rw (no1, unmoved p upd at (rw no1 at is)) refl
  ]

  pub one_edited : (p : X → Bool) (upd : X → X) (n : ℕ) (at : List (ℕ × X)) (x : ℕ × X) → RisesFrom n at → filter (λ (x : ℕ × X). p x.1) at ≡ x ∷ []
      → put_row (with_id enc (x.0, upd x.1)) (without_rowid (pos x.0) (map (with_id enc) at)) ≡ map (with_id enc) (map (step p upd) at)
  one_edited p upd n [] x rise is = absurd cc
  one_edited p upd n (z ∷ at) x rise is = elim (cases_Bool (p z.1)) [
    | inl yes1 ↦ (let first = rw yes1 at is in let e : z ≡ x = cc in let none : filter (λ (x : ℕ × X). p x.1) at ≡ [] = cc in
        subst (λ (w : ℕ × X). put_row (with_id enc (w.0, upd w.1)) (without_rowid (pos w.0) (map (with_id enc) (z ∷ at))) ≡ map (with_id enc) (map (step p upd) (z ∷ at))) e
        (rw (same z.0, gone_none z.0 at rise.1, put_first z.0 (upd z.1) at rise.1, yes1, unmoved p upd at none) refl))
    | inr no1 ↦ (let rest = rw no1 at is in let low = above p z.0 at x [] rise.1 rest in
        rw (less z.0 x.0 low, no1, less z.0 x.0 low) (ap (λ rows. with_id enc z ∷ rows) (one_edited p upd z.0 at x rise.1 rest)))
  ]

  pub kept_rise : (p : X → Bool) (upd : X → X) (n : ℕ) (at : List (ℕ × X)) → RisesFrom n at → RisesFrom n (map (step p upd) at)
  kept_rise p upd n [] rise = tt
  kept_rise p upd n (x ∷ at) rise = (rise.0, kept_rise p upd x.0 at rise.1)

  pub behind_steps : (p : X → Bool) (upd : X → X) (at : List (ℕ × X)) → map (λ (x : ℕ × X). x.1) (map (step p upd) at) ≡ map (λ x. if p x then upd x else x) (map (λ (x : ℕ × X). x.1) at)
  behind_steps p upd [] = refl
  behind_steps p upd (x ∷ at) = ap (λ more. (if p x.1 then upd x.1 else x.1) ∷ more) (behind_steps p upd at)

  abbrev pub picked : (X → X) → ℕ × X → Row
  picked upd x = Int (pos x.0) ∷ with_id enc (x.0, upd x.1)

  -- an UPDATE whose WHERE passes at most one row, by its query's answer
  pub one_update : (db : Trees) (table : Table) (p : X → Bool) (upd : X → X) (at : List (ℕ × X)) (rows : List Row) → db table.tree ≡ map (with_id enc) at → RisesFrom 0 at
      → ((x : ℕ × X) → cast_row table (with_id enc x) ≡ with_id enc x) → rows ≡ map (picked upd) (filter (λ (x : ℕ × X). p x.1) at) → length (filter (λ (x : ℕ × X). p x.1) at) ≤ 1
      → edited db (edit_of db table (ids_of rows) Given 1 rows) ≡ map (with_id enc) (map (step p upd) at)
  one_update db table p upd at rows is rise cast rows_is low =
      ap (λ rs. edited db (edit_of db table (ids_of rs) Given 1 rs)) rows_is ∙ go (filter (λ (x : ℕ × X). p x.1) at) refl low
    where
      go : (ys : List (ℕ × X)) → filter (λ (x : ℕ × X). p x.1) at ≡ ys → length ys ≤ 1 → edited db (edit_of db table (ids_of (map (picked upd) ys)) Given 1 (map (picked upd) ys)) ≡ map (with_id enc) (map (step p upd) at)
      go [] none low = is ∙ sym (ap (map (with_id enc)) (unmoved p upd at none))
      go (x ∷ []) one low = rw (is, cast (x.0, upd x.1)) (one_edited p upd 0 at x rise one)
      go (x ∷ y ∷ more) two low = absurd (omega arith)
