-- What stands at a place of a list, from 1, and what a change there does.
use Rattle.std.proofs.Common.{ℕ, ◌≡◌, ◌+◌, ◌-◌, ◌<◌, ◌≤◌, ◌⊎◌, ◌∙◌, ap, sym, List, map, length, get_or, set, Some, None, arith, refl}
use Rattle.std.proofs.lemmas.Bool.Decides.{nat_tests}
use Rattle.std.proofs.lemmas.List.{get_or-map, length-map, map-set, same_lists, get_or_default}
use Rattle.std.proofs.lemmas.Option.{slice_get-get_or, slice_get_past}
use Rattle.std.proofs.lemmas.Grind.{common_steps, elements}
use Rattle.x12_outbound.specs.Entry.{at_place, with_place}

-- a place of the list, by its index
pub at_place_within : {X : Type 0} (xs : List X) (place i : ℕ) (x : X) → i + 1 ≡ place → i < length xs
    → x ≡ get_or xs i x → at_place place xs ≡ Some x
at_place_within xs place i x at within is =
    let found = slice_get-get_or xs i x within in
    rw (← at) (grind (arith, nat_tests, found))

-- no place of the list
pub at_place_past : {X : Type 0} (xs : List X) (place : ℕ) → (place ≤ 0) ⊎ (length xs < place)
    → at_place place xs ≡ None
at_place_past xs place past = grind (arith, nat_tests, slice_get_past xs (place - 1))

pub at_place_map : {X Y : Type 0} (v : X → Y) (xs : List X) (place i : ℕ) (x : X) → i + 1 ≡ place
    → i < length xs → x ≡ get_or xs i x → at_place place (map v xs) ≡ Some (v x)
at_place_map v xs place i x at within is =
    at_place_within (map v xs) place i (v x) at (omega (arith, length-map xs v))
    (ap v is ∙ sym (get_or-map v xs i x (v x) within))

pub at_place_map_past : {X Y : Type 0} (v : X → Y) (xs : List X) (place : ℕ)
    → (place ≤ 0) ⊎ (length xs < place) → at_place place (map v xs) ≡ None
at_place_map_past v xs place past = at_place_past (map v xs) place (rw (length-map xs v) past)

-- a change at a place of the list, by its index
pub with_place_within : {X : Type 0} (f : X → X) (xs : List X) (place i : ℕ) (x : X) → i + 1 ≡ place
    → i < length xs → x ≡ get_or xs i x → with_place f place xs ≡ set xs i (f x)
with_place_within f xs place i x at within is =
    rw (at_place_within xs place i x at within is, ← at) (grind (arith, common_steps))

pub with_place_past : {X : Type 0} (f : X → X) (xs : List X) (place : ℕ)
    → (place ≤ 0) ⊎ (length xs < place) → with_place f place xs ≡ xs
with_place_past f xs place past = rw (at_place_past xs place past) refl

-- the code writes y over x, and f changes what x stands for into what y stands for
pub with_place_map : {X Y : Type 0} (v : X → Y) (f : Y → Y) (xs : List X) (place i : ℕ) (x y : X)
    → i + 1 ≡ place → i < length xs → x ≡ get_or xs i x → v y ≡ f (v x)
    → map v (set xs i y) ≡ with_place f place (map v xs)
with_place_map v f xs place i x y at within is same =
    map-set v xs i y ∙ ap (set (map v xs) i) same
    ∙ sym (with_place_within f (map v xs) place i (v x) at (omega (arith, length-map xs v))
    (ap v is ∙ sym (get_or-map v xs i x (v x) within)))

pub with_place_map_past : {X Y : Type 0} (v : X → Y) (f : Y → Y) (xs : List X) (place : ℕ)
    → (place ≤ 0) ⊎ (length xs < place) → map v xs ≡ with_place f place (map v xs)
with_place_map_past v f xs place past =
    sym (with_place_past f (map v xs) place (rw (length-map xs v) past))

-- a map that changes one element alone
pub map_only : {X : Type 0} (g : X → X) (xs : List X) (i : ℕ) (x : X) → i < length xs → x ≡ get_or xs i x
    → ((k : ℕ) (d : X) → k < length xs → (k ≡ i → ⊥) → g (get_or xs k d) ≡ get_or xs k d)
    → map g xs ≡ set xs i (g x)
map_only g xs i x within is others = same_lists (map g xs) (set xs i (g x)) (grind (arith, elements)) (λ k d at. grind (arith, elements, others k d, get_or-map g xs k d d, get_or_default xs i x d))
