-- What holds of each element of lists that are made from others.
use Rattle.std.proofs.Common.{ℕ, zero, suc, ◌≤◌, ◌+◌, Bool, true, false, List, [], ◌∷◌, length, take, flat_map, if◌then◌else◌, arith}
use Rattle.std.specs.Prelude.{Option, Some, None, IfSome}
use Rattle.std.specs.List.{AllByRecursion, filter_map, cons_option}
use Rattle.x12_envelopes.specs.Row.{held_of_rows}
use Rattle.x12_numbers.proofs.Shelf.{all_append}

pub all_taken : {K : Type 0} (P : K → Type 0) (n : ℕ) (xs : List K) → AllByRecursion P xs → AllByRecursion P (take n xs)
all_taken P zero xs a = tt
all_taken P (suc n) [] a = tt
all_taken P (suc n) (x ∷ xs) a = (a.0, all_taken P n xs a.1)

pub all_flat : {J K : Type 0} (P : K → Type 0) (f : J → List K) (xs : List J) → AllByRecursion (λ x. AllByRecursion P (f x)) xs → AllByRecursion P (flat_map f xs)
all_flat P f [] a = tt
all_flat P f (x ∷ xs) a = all_append P (f x) (flat_map f xs) a.0 (all_flat P f xs a.1)

-- rows that hold
held_by : {K : Type 0} (P : K → Type 0) (b : Bool) (x : K) (xs : List K) → P x → AllByRecursion P xs → AllByRecursion P (if b then x ∷ xs else xs)
held_by P true x xs p ps = (p, ps)
held_by P false x xs p ps = ps

pub all_held : {K : Type 0} (P : K → Type 0) (rows : List (Bool × K)) → AllByRecursion (λ row. P row.1) rows → AllByRecursion P (held_of_rows rows)
all_held P [] a = tt
all_held P (row ∷ rows) a = held_by P row.0 row.1 (held_of_rows rows) a.0 (all_held P rows a.1)

one_held : {K : Type 0} (b : Bool) (x : K) (xs : List K) (most : ℕ) → length xs ≤ most → length (if b then x ∷ xs else xs) ≤ most + 1
one_held true x xs most few = omega (arith, few)
one_held false x xs most few = omega (arith, few)

-- values that were found
kept_by : {K : Type 0} (P : K → Type 0) (o : Option K) (xs : List K) → IfSome o P → AllByRecursion P xs → AllByRecursion P (cons_option o xs)
kept_by P None xs p ps = ps
kept_by P (Some x) xs p ps = (p, ps)

pub all_found : {J K : Type 0} (P : K → Type 0) (f : J → Option K) (xs : List J) → AllByRecursion (λ x. IfSome (f x) P) xs → AllByRecursion P (filter_map f xs)
all_found P f [] a = tt
all_found P f (x ∷ xs) a = kept_by P (f x) (filter_map f xs) a.0 (all_found P f xs a.1)
