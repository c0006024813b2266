-- What a look-up of at most one row answers.
use Rattle.std.proofs.Common.{◌≡◌, ◌≤◌, ◌+◌, ◌==◌, ℕ, List, [], ◌∷◌, length, map, filter, find, Bool, false, Option, Some, option_map, refl, ap, ◌∙◌, inl, inr, arith, IsPermutation, None}
use Rattle.std.specs.List.{list_all, enumerate_from}
use Rattle.std.specs.Option.{option_to_list}
use Rattle.std.proofs.lemmas.Bool.{cases_Bool}
use Rattle.std.proofs.lemmas.List.{length-map}
use Rattle.sqlite.specs.Command.TheVariants.{Select}
use Rattle.sqlite.specs.Program.{overlay}
use Rattle.sqlite.specs.Listing.{understood, reads_listing}
use Rattle.sqlite.specs.declared.types.Value.TheVariants.{Null}
use Rattle.sqlite.specs.Order.{Row}
use Rattle.sqlite.specs.Query.{Output, output, IsAnswer}
use Rattle.sqlite.specs.State.{State, Shown}
use Rattle.sqlite.specs.Term.{Term, holds}
use Rattle.sqlite.proofs.Callers.{IsPlain, command_of, reads_as}
use Rattle.sql_rows.specs.Keyed.{with_id}
use Rattle.sql_rows.proofs.Selects.{one_table, answers, few}
use Rattle.x12_station_records.specs.StationSchema.{station_schema}

pub empty : {X : Type 0} (ys : List X) → length ys ≤ 0 → ys ≡ []
empty [] h = refl
empty (y ∷ ys) h = absurd (omega arith)

-- what passes a test, where at most one does, is what is found
found_is : {X Y : Type 0} (p : X → Bool) (f : X → Y) (xs : List X) → length (filter p xs) ≤ 1 → map f (filter p xs) ≡ option_to_list (option_map f (find p xs))
found_is p f [] low = refl
found_is p f (x ∷ xs) low = elim (cases_Bool (p x)) [
  | inl yes1 ↦ (let short : length (filter p xs) ≤ 0 = omega (arith, rw yes1 at low) in rw (yes1, empty (filter p xs) short) refl)
  | inr no1 ↦ rw no1 (found_is p f xs (rw no1 at low))
]

-- what is found by what stands behind the key
behind : {X Y : Type 0} (p : X → Bool) (f : X → Y) (at : List (ℕ × X)) → option_map (λ (x : ℕ × X). f x.1) (find (λ (x : ℕ × X). p x.1) at) ≡ option_map f (find p (map (λ (x : ℕ × X). x.1) at))
behind p f [] = refl
behind p f (x ∷ at) = elim (cases_Bool (p x.1)) [
  | inl yes1 ↦ rw yes1 refl
  | inr no1 ↦ rw no1 (behind p f at)
]

behind_many : {X : Type 0} (p : X → Bool) (at : List (ℕ × X)) → length (filter (λ (x : ℕ × X). p x.1) at) ≡ length (filter p (map (λ (x : ℕ × X). x.1) at))
behind_many p [] = refl
behind_many p (x ∷ at) = elim (cases_Bool (p x.1)) [
  | inl yes1 ↦ rw (yes1, behind_many p at) refl
  | inr no1 ↦ rw (no1, behind_many p at) refl
]

seconds : {X : Type 0} (f : X → Row) (ys : List X) → map (λ (o : Output). o.1) (map (λ x. ([], f x)) ys) ≡ map f ys
seconds f [] = refl
seconds f (y ∷ ys) = ap (λ more. f y ∷ more) (seconds f ys)

pub by_place : {X : Type 0} (n : ℕ) (xs : List X) → map (λ (x : ℕ × X). x.1) (enumerate_from n xs) ≡ xs
by_place n [] = refl
by_place n (x ∷ xs) = ap (λ more. x ∷ more) (by_place (n + 1) xs)

-- rows under a number of their own
module _ {X : Type 0} (num : X → ℕ) where
  pub behind_number : (rs : List X) → map (λ (x : ℕ × X). x.1) (map (λ r. (num r, r)) rs) ≡ rs
  behind_number [] = refl
  behind_number (r ∷ rs) = ap (λ more. r ∷ more) (behind_number rs)

  -- by the key is by the number
  pub find_numbered : {Y : Type 0} (f : X → Y) (n : ℕ) (rs : List X) → option_map (λ (x : ℕ × X). f x.1) (find (λ (x : ℕ × X). x.0 == n) (map (λ r. (num r, r)) rs)) ≡ option_map f (find (λ r. num r == n) rs)
  find_numbered f n [] = refl
  find_numbered f n (r ∷ rs) = elim (cases_Bool (num r == n)) [
    | inl yes1 ↦ rw yes1 refl
    | inr no1 ↦ rw no1 (find_numbered f n rs)
  ]

  pub many_numbered : (n : ℕ) (rs : List X) → length (filter (λ (x : ℕ × X). x.0 == n) (map (λ r. (num r, r)) rs)) ≡ length (filter (λ r. num r == n) rs)
  many_numbered n [] = refl
  many_numbered n (r ∷ rs) = elim (cases_Bool (num r == n)) [
    | inl yes1 ↦ rw (yes1, many_numbered n rs) refl
    | inr no1 ↦ rw (no1, many_numbered n rs) refl
  ]

pub over : {X Y Z : Type 0} (f : Y → Z) (v : X → Y) (o : Option X) → option_map (λ x. f (v x)) o ≡ option_map f (option_map v o)
over f v None = refl
over f v (Some x) = refl

module _ (sql : List ℕ) (params : Row) (old new : State) (has : old.now.schema ≡ station_schema) (tree : ℕ) (wheres shows : List Term) (names : List (List ℕ))
    (is : (command_of (understood station_schema sql) ≡ Select (record { lets = []; body = one_table tree wheres shows [] }) names) × (reads_listing station_schema sql ≡ false) × IsPlain (understood station_schema sql)) where
  -- the row with this key
  pub finds_key : {X : Type 0} (enc : X → Row) (at : List (ℕ × X)) → IsPermutation (overlay old.now.trees [] tree) (map (with_id enc) at) → (p : ℕ × X → Bool) (shown : ℕ × X → Row)
      → ((x : ℕ × X) → list_all (holds (params ∷ with_id enc x ∷ [])) wheres ≡ p x) → ((x : ℕ × X) → output (one_table tree wheres shows []) (params ∷ with_id enc x ∷ []) ≡ ([], shown x))
      → length (filter p at) ≤ 1 → (rows : List Row) → Shown sql params old new rows → rows ≡ option_to_list (option_map shown (find p at))
  finds_key {X = X} enc at stands p shown tests outs low rows h =
      let read = reads_as sql params old new station_schema has (Select (record { lets = []; body = one_table tree wheres shows [] }) names) is.0 is.2 is.1 rows h in
      let a : IsAnswer (one_table tree wheres shows []) (overlay old.now.trees []) params rows = read.answer Null in
      let out : ℕ × X → Output = λ x. ([], shown x) in
      let got = answers params tree wheres shows [] (with_id enc) p out tests outs (overlay old.now.trees []) at rows stands a in
      let ys = filter p at in
      let short : length (map out ys) ≤ 1 = omega (arith, length-map ys out, low) in
      got.3 ∙ ap (map (λ (o : Output). o.1)) (few (map out ys) got.0 short got.1) ∙ seconds shown ys ∙ found_is p shown at low

  -- the row that a test of its columns passes
  pub finds_one : {X : Type 0} (enc : X → Row) (at : List (ℕ × X)) → IsPermutation (overlay old.now.trees [] tree) (map (with_id enc) at) → (p : X → Bool) (shown : X → Row)
      → ((x : ℕ × X) → list_all (holds (params ∷ with_id enc x ∷ [])) wheres ≡ p x.1) → ((x : ℕ × X) → output (one_table tree wheres shows []) (params ∷ with_id enc x ∷ []) ≡ ([], shown x.1))
      → length (filter p (map (λ (x : ℕ × X). x.1) at)) ≤ 1 → (rows : List Row) → Shown sql params old new rows → rows ≡ option_to_list (option_map shown (find p (map (λ (x : ℕ × X). x.1) at)))
  finds_one {X = X} enc at stands p shown tests outs low rows h =
      finds_key enc at stands (λ (x : ℕ × X). p x.1) (λ (x : ℕ × X). shown x.1) tests outs (omega (arith, low, behind_many p at)) rows h ∙ ap option_to_list (behind p shown at)
