-- Lists that grow at their end: what stood in them stands in them still.
use Rattle.std.specs.Prelude.{◌≡◌, ◌≢◌, ℕ, zero, suc, List, [], ◌∷◌, Bool, true, false, cond, if◌then◌else◌, Option, Some, None, Contains, refl, ◌⊎◌, filter, map, slice_get, set, option_to_list, filter_map, flat_map}
use Rattle.std.specs.List.{cons_option}
use mathlib.Core.Path.{sym, ap, subst, ◌∙◌}
use mathlib.Core.Logic.{inl, inr}
use Rattle.std.proofs.lemmas.List.Elements.{Contains-append_left, Contains-append_right, Contains-append_cases}
use Rattle.x12_numbers.proofs.Shelf.{contains_cons, contains_head, contains_tail, none_in_nil}

module _ {X : Type 0} where
  pub contains_option : (o : Option X) (x : X) → Contains (option_to_list o) x → o ≡ Some x
  contains_option None x h = none_in_nil x h
  contains_option (Some y) x h = elim (contains_cons x y [] h) [ inl e ↦ ap Some e | inr e ↦ none_in_nil x e ]

  pub contains_some : (o : Option X) (x : X) → o ≡ Some x → Contains (option_to_list o) x
  contains_some o x e = rw e (contains_head x [])

module _ {X : Type 0} where
  pub get_set_other : (xs : List X) (i j : ℕ) (x : X) → j ≢ i → slice_get (set xs i x) j ≡ slice_get xs j
  get_set_other [] i j x n = refl
  get_set_other (z ∷ xs) zero zero x n = absurd (n refl)
  get_set_other (z ∷ xs) zero (suc j) x n = refl
  get_set_other (z ∷ xs) (suc i) zero x n = refl
  get_set_other (z ∷ xs) (suc i) (suc j) x n = get_set_other xs i j x (λ e. n (ap suc e))

  pub get_contains : (xs : List X) (i : ℕ) (x : X) → slice_get xs i ≡ Some x → Contains xs x
  get_contains [] i x e = absurd (cc)
  get_contains (y ∷ xs) zero x e = let same : y ≡ x = cc in subst (λ z. Contains (y ∷ xs) z) same (contains_head y xs)
  get_contains (y ∷ xs) (suc i) x e = contains_tail x y xs (get_contains xs i x e)

  pub get_map : {Y : Type 0} (f : X → Y) (xs : List X) (i : ℕ) (x : X) → slice_get xs i ≡ Some x → slice_get (map f xs) i ≡ Some (f x)
  get_map f [] i x e = absurd (cc)
  get_map f (y ∷ xs) zero x e = let same : y ≡ x = cc in ap (λ z. Some (f z)) same
  get_map f (y ∷ xs) (suc i) x e = get_map f xs i x e

  pub get_map_back : {Y : Type 0} (f : X → Y) (xs : List X) (i : ℕ) (y : Y) → slice_get (map f xs) i ≡ Some y → (x : X) × (slice_get xs i ≡ Some x) × (f x ≡ y)
  get_map_back f [] i y e = absurd (cc)
  get_map_back f (x ∷ xs) zero y e = let same : f x ≡ y = cc in (x, refl, same)
  get_map_back f (x ∷ xs) (suc i) y e = get_map_back f xs i y e

-- a list of some items that one more joins
pub map_set_same : {X Y : Type 0} (f : X → Y) (xs : List X) (i : ℕ) (x y : X) → slice_get xs i ≡ Some y → f x ≡ f y → map f (set xs i x) ≡ map f xs
map_set_same f [] i x y e same = refl
map_set_same f (z ∷ xs) zero x y e same = let z_is : z ≡ y = cc in ap (λ u. u ∷ map f xs) (same ∙ ap f (sym z_is))
map_set_same f (z ∷ xs) (suc i) x y e same = ap (λ l. f z ∷ l) (map_set_same f xs i x y e same)

-- one test, asked before and after
pub same_way : {A : Type 0} (t : Bool) (x y z r : A) → (y ≡ r → z ≡ r) → (if t then x else y) ≡ r → (if t then x else z) ≡ r
same_way true x y z r f is = is
same_way false x y z r f is = f is

pub none_way : {A : Type 0} (t : Bool) (x : A) (y z r : Option A) → (y ≡ None → z ≡ r) → (if t then Some x else y) ≡ None → (if t then Some x else z) ≡ r
none_way true x y z r f is = absurd (cc)
none_way false x y z r f is = f is

pub in_either : {A : Type 0} (t : Bool) (xs ys zs : List A) (b : A) → (Contains xs b → Contains zs b) → (Contains ys b → Contains zs b) → Contains (if t then xs else ys) b → Contains zs b
in_either true xs ys zs b f g is = f is
in_either false xs ys zs b f g is = g is

module _ {X : Type 0} where
  pub contains_filter : (test : X → Bool) (xs : List X) (x : X) → Contains (filter test xs) x → Contains xs x
  contains_filter test [] x h = h
  contains_filter test (y ∷ xs) x h = by (test y) (contains_filter test xs x) h
    where
      by : (t : Bool) → (Contains (filter test xs) x → Contains xs x) → Contains (cond t (y ∷ filter test xs) (filter test xs)) x → Contains (y ∷ xs) x
      by true later is = elim (contains_cons x y (filter test xs) is) [ inl e ↦ subst (λ z. Contains (y ∷ xs) z) e (contains_head y xs) | inr rest ↦ contains_tail x y xs (later rest) ]
      by false later is = contains_tail x y xs (later is)

  pub contains_filter_map : {Y : Type 0} (f : X → Option Y) (xs : List X) (y : Y) → Contains (filter_map f xs) y → (x : X) × Contains xs x × (f x ≡ Some y)
  contains_filter_map f [] y h = none_in_nil y h
  contains_filter_map {Y} f (x ∷ xs) y h = by (f x) refl (contains_filter_map f xs y) h
    where
      by : (o : Option Y) → f x ≡ o → (Contains (filter_map f xs) y → (z : X) × Contains xs z × (f z ≡ Some y)) → Contains (cons_option o (filter_map f xs)) y → (z : X) × Contains (x ∷ xs) z × (f z ≡ Some y)
      by None e later is = let rest = later is in (rest.0, contains_tail rest.0 x xs rest.1, rest.2)
      by (Some v) e later is = elim (contains_cons y v (filter_map f xs) is) [
        | inl same ↦ (x, contains_head x xs, e ∙ ap Some same)
        | inr more ↦ let rest = later more in (rest.0, contains_tail rest.0 x xs rest.1, rest.2)
      ]

  pub contains_map : {Y : Type 0} (f : X → Y) (xs : List X) (y : Y) → Contains (map f xs) y → (x : X) × Contains xs x × (f x ≡ y)
  contains_map f [] y h = none_in_nil y h
  contains_map f (x ∷ xs) y h = elim (contains_cons y (f x) (map f xs) h) [
    | inl same ↦ (x, contains_head x xs, same)
    | inr more ↦ let rest = contains_map f xs y more in (rest.0, contains_tail rest.0 x xs rest.1, rest.2)
  ]

pub if_cases : {A : Type 0} (t : Bool) (x y z : A) → (if t then x else y) ≡ z → ((t ≡ true) × (x ≡ z)) ⊎ ((t ≡ false) × (y ≡ z))
if_cases true x y z e = inl (refl, e)
if_cases false x y z e = inr (refl, e)

module _ {X Y : Type 0} where
  pub contains_flat_map : (f : X → List Y) (xs : List X) (y : Y) → Contains (flat_map f xs) y → (x : X) × Contains xs x × Contains (f x) y
  contains_flat_map f [] y h = none_in_nil y h
  contains_flat_map f (x ∷ xs) y h = elim (Contains-append_cases (f x) (flat_map f xs) y h) [
    | inl here ↦ (x, contains_head x xs, here)
    | inr later ↦ let rest = contains_flat_map f xs y later in (rest.0, contains_tail rest.0 x xs rest.1, rest.2)
  ]

  pub flat_map_contains : (f : X → List Y) (xs : List X) (x : X) (y : Y) → Contains xs x → Contains (f x) y → Contains (flat_map f xs) y
  flat_map_contains f [] x y h k = none_in_nil x h
  flat_map_contains f (z ∷ xs) x y h k = elim (contains_cons x z xs h) [
    | inl same ↦ Contains-append_left (f z) (flat_map f xs) y (subst (λ u. Contains (f u) y) (sym same) k)
    | inr later ↦ Contains-append_right (f z) (flat_map f xs) y (flat_map_contains f xs x y later k)
  ]
