-- What several crates prove of Option, Bool, numbers and lists, once.
use Rattle.std.proofs.Common.{All, AllPairs, Bool, Err, IfSome, IsTrue, List, None, Ok, Option, Result, Some, [], ap, arith, drop, false, filter, find, get_or, inl, inr, length, map, min, option_and_then, refl, set, slice_get, subst, suc, sym, take, true, zero, ℕ, ◌&&◌, ◌++◌, ◌+◌, ◌<◌, ◌==◌, ◌||◌, ◌∙◌, ◌∷◌, ◌≡◌, ◌≤◌}
use Rattle.std.proofs.lemmas.Bool.{cases_Bool, or_parts}
use Rattle.std.proofs.lemmas.Bool.Decides.{Decides-eqb, eqb_tells, nat_tests, not_from_Decides}
use Rattle.std.proofs.lemmas.List.{get_or-map, length-map, length-take, take_all}
use Rattle.std.proofs.lemmas.List.Elements.{All-append, All-cons, All-contains_itself, All-map, All-nil, Contains-append_cases, Contains-append_left, Contains-append_right, Contains-push, Contains-push_cases}
use Rattle.std.proofs.lemmas.List.Kept.{AllPairs-cons}
use Rattle.std.proofs.lemmas.Slice.Eq.{bytes_eq-Decides}
use Rattle.std.specs.List.{AllByRecursion, enumerate_from, list_any}
use Rattle.std.specs.Option.{option_map, option_or}
use Rattle.std.specs.Ordering.{is_eq, nat_cmp, ordering_then}
use Rattle.std.specs.Prelude.{Contains, IsOk, OnOk, bytes_eq, cond, flat_map, if◌then◌else◌, is_some, ◌≢◌, ◌⊎◌}
use Rattle.std.specs.declared.cmp.Ordering.{Ordering}
use Rattle.std.specs.declared.cmp.Ordering.TheVariants.{Equal, Greater, Less}
use Rattle.x12_numbers.proofs.RisingLemmas.{rising_parts}
use Rattle.x12_numbers.specs.Book.{is_rising, latest_number}
use mathlib.Core.Path.{ap₂}

pub all_append : {K : Type 0} (P : K → Type 0) (xs ys : List K) → AllByRecursion P xs → AllByRecursion P ys → AllByRecursion P (xs ++ ys)
all_append P [] ys a b = b
all_append P (x ∷ xs) ys a b = (a.0, all_append P xs ys a.1 b)

module _ {X : Type 0} where
  pub contains_head : (x : X) (xs : List X) → Contains (x ∷ xs) x
  contains_head x xs = Contains-append_left (x ∷ []) xs x (Contains-push [] x)

  pub contains_tail : (x y : X) (xs : List X) → Contains xs x → Contains (y ∷ xs) x
  contains_tail x y xs h = Contains-append_right (y ∷ []) xs x h

pub flat_map_same_at : {X A : Type 0} (f g : X → List A) (xs : List X) → ((x : X) → Contains xs x → f x ≡ g x) → flat_map f xs ≡ flat_map g xs
flat_map_same_at f g [] is = refl
flat_map_same_at f g (x ∷ xs) is = ap₂ (λ a b. a ++ b) (is x (contains_head x xs)) (flat_map_same_at f g xs (λ y h. is y (contains_tail y x xs h)))

pub all_and_one : {K : Type 0} (P : K → Type 0) (front : List K) (k : K) → AllByRecursion P front → P k → AllByRecursion P (front ++ k ∷ [])
all_and_one P [] k all is = (is, tt)
all_and_one P (p ∷ front) k all is = (all.0, all_and_one P front k all.1 is)

pub enumerate_push : {X : Type 0} (n : ℕ) (xs : List X) (x : X) → enumerate_from n (xs ++ x ∷ []) ≡ enumerate_from n xs ++ (n + length xs, x) ∷ []
enumerate_push n [] x = ap (λ k. (k, x) ∷ []) (omega arith)
enumerate_push n (y ∷ ys) x =
    ap (λ t. (n, y) ∷ t) (enumerate_push (n + 1) ys x ∙ ap (λ k. enumerate_from (n + 1) ys ++ (k, x) ∷ []) (omega arith))

pub or_true_right : (b : Bool) → (b || true) ≡ true
or_true_right true = refl
or_true_right false = refl

pub bytes_eq_itself : (n : List ℕ) → bytes_eq n n ≡ true
bytes_eq_itself n = (bytes_eq-Decides n n).1 refl

pub none_passes : {K : Type 0} (p : K → Bool) (ks : List K) → list_any p ks ≡ false → AllByRecursion (λ k. p k ≡ false) ks
none_passes p [] none = tt
none_passes p (k ∷ ks) none =
    let split = or_parts (p k) (list_any p ks) none in
    (split.0, none_passes p ks split.1)

pub all_of_both : {K : Type 0} (P Q : K → Type 0) (ks : List K) → AllByRecursion P ks → AllByRecursion Q ks → AllByRecursion (λ k. P k × Q k) ks
all_of_both P Q [] a b = tt
all_of_both P Q (k ∷ ks) a b = ((a.0, b.0), all_of_both P Q ks a.1 b.1)

pub or_false_right : (a b : Bool) → b ≡ false → (a || b) ≡ a
or_false_right true b e = refl
or_false_right false b e = e

pub or_false_left : (a b : Bool) → a ≡ false → (a || b) ≡ b
or_false_left true b e = absurd cc
or_false_left false b e = refl

pub eq_itself : (n : ℕ) → (n == n) ≡ true
eq_itself n = (Decides-eqb n n).1 refl

pub greater_differs : (m n : ℕ) → m < n → (n == m) ≡ false
greater_differs m n lt = elim (eqb_tells n m) [
  | inl is ↦ let eq = is.1 in absurd (omega arith)
  | inr apart ↦ apart.0
]

pub less_differs : (m n : ℕ) → m < n → (m == n) ≡ false
less_differs m n lt = elim (eqb_tells m n) [
  | inl is ↦ let eq = is.1 in absurd (omega arith)
  | inr apart ↦ apart.0
]

pub never_both : (b : Bool) → b ≡ true → b ≡ false → ⊥
never_both true is isnt = cc
never_both false is isnt = cc

pub and_second : (a b : Bool) → (a && b) ≡ true → b ≡ true
and_second true b e = e
and_second false b e = absurd (cc)

-- the test on bytes, with what it tells
pub bytes_eq_tells : (a b : List ℕ) → ((bytes_eq a b ≡ true) × (a ≡ b)) ⊎ ((bytes_eq a b ≡ false) × (a ≢ b))
bytes_eq_tells a b = by (bytes_eq a b) refl
  where
    by : (t : Bool) → bytes_eq a b ≡ t → ((bytes_eq a b ≡ true) × (a ≡ b)) ⊎ ((bytes_eq a b ≡ false) × (a ≡ b → ⊥))
    by true e = inl (e, (bytes_eq-Decides a b).0 e)
    by false e = inr (e, not_from_Decides (bytes_eq a b) (bytes_eq-Decides a b) e)

pub some_inj : {A : Type 0} {x y : A} → Some x ≡ Some y → x ≡ y
some_inj e = cc

-- what holds of a success, where there is one
pub from_ok : {T E P : Type 0} (r : Result T E) → IsOk r → OnOk r P → P
from_ok (Ok x) ok on = on
from_ok (Err x) ok on = absurd cc

-- a test with two answers, of which only the first is one
pub if_some_parts : {A : Type 0} (t : Bool) (x : Option A) (y : A) → (if t then x else None) ≡ Some y → (t ≡ true) × (x ≡ Some y)
if_some_parts true x y e = (refl, e)
if_some_parts false x y e = absurd cc

pub none_if_not_some : {X : Type 0} (o : Option X) → is_some o ≡ false → o ≡ None
none_if_not_some None e = refl
none_if_not_some (Some x) e = absurd cc

pub nil_if_no_length : {X : Type 0} (xs : List X) → length xs ≡ 0 → xs ≡ []
nil_if_no_length [] e = refl
nil_if_no_length (x ∷ xs) e = absurd (omega arith)

-- pairs of what a list stands for
pub pairs_to_map : {X Y : Type 0} (v : X → Y) (L : Y → Y → Type 0) (xs : List X) → AllPairs (λ a b. L (v a) (v b)) xs → AllPairs L (map v xs)
pairs_to_map v L [] pairs = λ i j d before within. absurd (omega arith)
pairs_to_map v L (x ∷ xs) pairs =
    AllPairs-cons L (v x) (map v xs)
    (All-map (L (v x)) v xs (λ k d within. pairs 0 (suc k) d (omega arith) (omega arith)))
    (pairs_to_map v L xs (λ i j d before within. pairs (suc i) (suc j) d (omega arith) (omega arith)))

-- places rise
pub places_from : {X : Type 0} (n : ℕ) (xs : List X) → All (λ (p : ℕ × X). n ≤ p.0) (enumerate_from n xs)
places_from n [] k d within = absurd (omega arith)
places_from n (x ∷ xs) zero d within = omega arith
places_from n (x ∷ xs) (suc k) d within = let later = places_from (n + 1) xs k d (omega arith) in omega (arith, later)

pub places_rise : {X : Type 0} (n : ℕ) (xs : List X) → AllPairs (λ (p q : ℕ × X). p.0 < q.0) (enumerate_from n xs)
places_rise n [] = λ i j d before within. absurd (omega arith)
places_rise n (x ∷ xs) =
    AllPairs-cons (λ (p q : ℕ × _). p.0 < q.0) (n, x) (enumerate_from (n + 1) xs)
    (λ k d within. let later = places_from (n + 1) xs k d within in omega (arith, later))
    (places_rise (n + 1) xs)

-- equal in both parts
pub is_eq-then : (a b : Ordering) → is_eq (ordering_then a b) ≡ (is_eq a && is_eq b)
is_eq-then Less b = refl
is_eq-then Equal b = refl
is_eq-then Greater b = refl

pub is_eq-nat : (m n : ℕ) → is_eq (nat_cmp m n) ≡ (m == n)
is_eq-nat m n = grind (arith, nat_tests)

-- the first element that passes, by its index
pub find_at : {X : Type 0} (p : X → Bool) (xs : List X) (i : ℕ) → i < length xs
    → ((d : X) → p (get_or xs i d) ≡ true) → ((k : ℕ) (d : X) → k < i → p (get_or xs k d) ≡ false)
    → find p xs ≡ slice_get xs i
find_at p [] i within here before = absurd (omega arith)
find_at p (x ∷ xs) zero within here before = rw (here x) refl
find_at p (x ∷ xs) (suc i) within here before =
    rw (before 0 x (omega arith)) (find_at p xs i (omega arith) here (λ k d below. before (suc k) d (omega arith)))

-- no element passes
pub find_none : {X : Type 0} (p : X → Bool) (xs : List X) → ((k : ℕ) (d : X) → k < length xs → p (get_or xs k d) ≡ false)
    → find p xs ≡ None
find_none p [] none = refl
find_none p (x ∷ xs) none = rw (none 0 x (omega arith)) (find_none p xs (λ k d within. none (suc k) d (omega arith)))

-- an element, by its index
pub mapped_at : {X Y : Type 0} (v : X → Y) (xs : List X) (i : ℕ) (x : X) → i < length xs → x ≡ get_or xs i x
    → slice_get (map v xs) i ≡ Some (v x)
mapped_at v [] i x within is = absurd (omega arith)
mapped_at v (y ∷ xs) zero x within is = ap (λ z. Some (v z)) (sym is)
mapped_at v (y ∷ xs) (suc i) x within is = mapped_at v xs i x (omega arith) is

-- what holds of an element's view holds of the element of the views
pub holds_at_map : {X Y : Type 0} (v : X → Y) (P : Y → Type 0) (xs : List X) (i : ℕ) → i < length xs
    → ((d : X) → P (v (get_or xs i d))) → (d : Y) → P (get_or (map v xs) i d)
holds_at_map v P [] i within holds d = absurd (omega arith)
holds_at_map v P (x ∷ xs) zero within holds d = holds x
holds_at_map v P (x ∷ xs) (suc i) within holds d = holds_at_map v P xs i (omega arith) holds d

-- what holds of pairs of what a list stands for holds of its pairs
pub pairs_from_map : {X Y : Type 0} (v : X → Y) (R : Y → Y → Type 0) (xs : List X) → AllPairs R (map v xs)
    → AllPairs (λ a b. R (v a) (v b)) xs
pairs_from_map v R xs pairs = λ i j d before within.
    rw (← get_or-map v xs i d (v d) (omega arith), ← get_or-map v xs j d (v d) within)
    (pairs i j (v d) before (omega (arith, length-map xs v)))

-- bytes that were taken up to a limit, and are fewer, are all of them
pub taken_whole : (limit : ℕ) (items input : List ℕ) → items ≡ take limit input → length items < limit → items ≡ input
taken_whole limit items input is few =
    let shorter : length items ≡ min limit (length input) = ap length is ∙ length-take limit input in
    let within : length input ≤ limit = omega arith in
    is ∙ take_all limit input within

pub whole_input : (limit : ℕ) (known : Option (List ℕ)) (items : List ℕ) →
    IfSome (option_map (take limit) known) (λ xs. items ≡ [] ++ xs) → length items < limit →
    IfSome known (λ input. items ≡ input)
whole_input limit None items is few = is
whole_input limit (Some input) items is few = taken_whole limit items input is few

pub latest_above : (last : ℕ) (ns : List ℕ) → IsTrue (is_rising last ns) → last ≤ latest_number last ns
latest_above last [] rising = omega arith
latest_above last (n ∷ ns) rising =
    let parts = rising_parts last n ns rising in
    omega (arith, parts.above, latest_above n ns parts.rest)

-- no set is out where none of the rows has one
pub found_holds : {X : Type 0} (Q : X → Type 0) (test : X → Bool) (xs : List X) (x : X) → AllByRecursion Q xs → find test xs ≡ Some x → Q x
found_holds Q test [] x all found = absurd (let no : ⊥ = cc in no)
found_holds Q test (y ∷ xs) x all found = elim (cases_Bool (test y)) [
  | inl passes ↦ subst Q (some_same (rw passes at found)) all.0
  | inr fails ↦ found_holds Q test xs x all.1 (rw fails at found)
]
  where
    some_same : {Y : Type 0} {y z : Y} → Some y ≡ Some z → y ≡ z
    some_same same = cc

pub slice_holds : {X : Type 0} (P : X → Type 0) (xs : List X) → AllByRecursion P xs → (k : ℕ) → IfSome (slice_get xs k) P
slice_holds P [] all k = tt
slice_holds P (x ∷ xs) all zero = all.0
slice_holds P (x ∷ xs) all (suc k) = slice_holds P xs all.1 k

pub then_holds : {X Y : Type 0} (P : X → Type 0) (Q : Y → Type 0) (f : X → Option Y) (o : Option X) → ((x : X) → P x → IfSome (f x) Q) → IfSome o P → IfSome (option_and_then f o) Q
then_holds P Q f None gives holds = tt
then_holds P Q f (Some x) gives holds = gives x holds

-- a test over a mapped list
pub list_any-map :
    {X Y : Type 0} (p : Y → Bool) (f : X → Y) (xs : List X) → list_any p (map f xs) ≡ list_any (λ x. p (f x)) xs
list_any-map p f [] = refl
list_any-map p f (x ∷ xs) = ap (λ b. p (f x) || b) (list_any-map p f xs)

pub all_weaker : {X : Type 0} (P Q : X → Type 0) (xs : List X) → ((x : X) → P x → Q x) → AllByRecursion P xs → AllByRecursion Q xs
all_weaker P Q [] gives all = tt
all_weaker P Q (x ∷ xs) gives all = (gives x all.0, all_weaker P Q xs gives all.1)

pub and_false_right : (b : Bool) → (b && false) ≡ false
and_false_right true = refl
and_false_right false = refl

-- the next interchange
pub all_of_one : {X : Type 0} (P : X → Type 0) (x : X) → P x → All P (x ∷ [])
all_of_one P x holds = All-cons P x [] holds (All-nil P)

pub all_filtered : {X : Type 0} (Q : X → Type 0) (test : X → Bool) (xs : List X) → AllByRecursion Q xs → AllByRecursion Q (filter test xs)
all_filtered Q test [] all = tt
all_filtered Q test (x ∷ xs) all = elim (cases_Bool (test x)) [
  | inl passes ↦ rw passes (all.0, all_filtered Q test xs all.1)
  | inr fails ↦ rw fails (all_filtered Q test xs all.1)
]

-- reading a list that was written at one index
pub slice_get_set_same : {X : Type 0} (xs : List X) (i : ℕ) (y x : X) → slice_get xs i ≡ Some x → slice_get (set xs i y) i ≡ Some y
slice_get_set_same [] i y x found = absurd (none_some found)
  where
    none_some : {X : Type 0} {x : X} → None ≡ Some x → ⊥
    none_some same = cc
slice_get_set_same (z ∷ xs) zero y x found = refl
slice_get_set_same (z ∷ xs) (suc i) y x found = slice_get_set_same xs i y x found

pub and_four : (a b c d : Bool) → (a && b && c && d) ≡ true → (a ≡ true) × (b ≡ true) × (c ≡ true) × (d ≡ true)
and_four true true true d e = (refl, refl, refl, e)
and_four true true false d e = absurd cc
and_four true false c d e = absurd cc
and_four false b c d e = absurd cc

-- what holds of each of what a list stands for
pub all_from_map : {X Y : Type 0} (v : X → Y) (P : Y → Type 0) (xs : List X) → All P (map v xs) → All (λ x. P (v x)) xs
all_from_map v P xs all = λ k d within. rw (← get_or-map v xs k d (v d) within) (all k (v d) (omega (arith, length-map xs v)))

-- places of what elements stand for
pub enumerate_mapped : {X Y : Type 0} (v : X → Y) (n : ℕ) (xs : List X) → enumerate_from n (map v xs) ≡ map (λ p. (p.0, v p.1)) (enumerate_from n xs)
enumerate_mapped v n [] = refl
enumerate_mapped v n (x ∷ xs) = ap (λ rest. (n, v x) ∷ rest) (enumerate_mapped v (n + 1) xs)

pub map_twice : {X Y Z : Type 0} (g : Y → Z) (f : X → Y) (xs : List X) → map g (map f xs) ≡ map (λ x. g (f x)) xs
map_twice g f [] = refl
map_twice g f (x ∷ xs) = ap (λ rest. g (f x) ∷ rest) (map_twice g f xs)

pub any_append : {X : Type 0} (p : X → Bool) (xs ys : List X) → list_any p (xs ++ ys) ≡ (list_any p xs || list_any p ys)
any_append p [] ys = refl
any_append p (x ∷ xs) ys = ap (λ b. p x || b) (any_append p xs ys) ∙ by (p x)
  where
    by : (b : Bool) → (b || (list_any p xs || list_any p ys)) ≡ ((b || list_any p xs) || list_any p ys)
    by true = refl
    by false = refl

pub option_or_none : {X : Type 0} (o : Option X) → option_or o None ≡ o
option_or_none None = refl
option_or_none (Some x) = refl

pub and_three : (a b c : Bool) → (a && b && c) ≡ true → (a ≡ true) × (b ≡ true) × (c ≡ true)
and_three true true c e = (refl, refl, e)
and_three true false c e = absurd cc
and_three false b c e = absurd cc

pub false_is_never_true : {A : Type 0} → false ≡ true → A
false_is_never_true e = absurd cc

pub differs_from_less : (n item : ℕ) → item < n → (n == item) ≡ false
differs_from_less n item h = grind (arith, nat_tests)

pub all_push : {X : Type 0} (P : X → Type 0) (xs : List X) (x : X) → All P xs → P x → All P (xs ++ x ∷ [])
all_push P xs x h last = All-append P xs (x ∷ []) h (all_of_one P x last)

pub no_pairs : {X : Type 0} (R : X → X → Type 0) → AllPairs R []
no_pairs R = λ i j d before at. absurd (omega arith)

-- the loop's steps
pub drop_at_place : (i : ℕ) (xs : List ℕ) → i < length xs → drop i xs ≡ get_or xs i 0 ∷ drop (i + 1) xs
drop_at_place i [] low = absurd (omega (arith, low))
drop_at_place zero (x ∷ xs) low = refl
drop_at_place (suc i) (x ∷ xs) low = let e : suc i + 1 ≡ suc (i + 1) = omega arith in rw e (drop_at_place i xs (omega (arith, low)))

-- what holds of each element holds of a list
pub all_from_contains : {X : Type 0} (P : X → Type 0) (xs : List X) → ((x : X) → Contains xs x → P x) → All P xs
all_from_contains P xs each = λ k d within. each _ (All-contains_itself xs k d within)

module _ {X : Type 0} where
  pub none_in_nil : {A : Type 0} (x : X) → Contains [] x → A
  none_in_nil x h = let lt = h.1 in absurd (omega arith)

  pub contains_cons : (x y : X) (xs : List X) → Contains (y ∷ xs) x → (y ≡ x) ⊎ Contains xs x
  contains_cons x y xs h = elim (Contains-append_cases (y ∷ []) xs x h) [ inl a ↦ elim (Contains-push_cases [] y x a) [ inl e ↦ none_in_nil x e | inr e ↦ inl e ] | inr b ↦ inr b ]

  -- what is found is an element that passes
  pub found_passes : (p : X → Bool) (xs : List X) (x : X) → find p xs ≡ Some x → Contains xs x × (p x ≡ true)
  found_passes p [] x e = absurd cc
  found_passes p (y ∷ xs) x e = by (p y) refl e (found_passes p xs x)
    where
      by : (b : Bool) → p y ≡ b → cond b (Some y) (find p xs) ≡ Some x → (find p xs ≡ Some x → Contains xs x × (p x ≡ true)) → Contains (y ∷ xs) x × (p x ≡ true)
      by true is e more = let same : y ≡ x = cc in (subst (λ z. Contains (y ∷ xs) z) same (contains_head y xs), subst (λ z. p z ≡ true) same is)
      by false is e more = (contains_tail x y xs (more e).0, (more e).1)

  pub contains_in_filter : (p : X → Bool) (xs : List X) (x : X) → Contains xs x → p x ≡ true → Contains (filter p xs) x
  contains_in_filter p [] x h is = none_in_nil x h
  contains_in_filter p (y ∷ xs) x h is = elim (contains_cons x y xs h) [
    | inl same ↦ rw (subst (λ z. p z ≡ true) (sym same) is) (subst (λ z. Contains (y ∷ filter p xs) z) same (contains_head y (filter p xs)))
    | inr later ↦ by (p y) (contains_in_filter p xs x later is)
  ]
    where
      by : (b : Bool) → Contains (filter p xs) x → Contains (cond b (y ∷ filter p xs) (filter p xs)) x
      by true h = contains_tail x y (filter p xs) h
      by false h = h

  pub contains_mapped : {Y : Type 0} (f : X → Y) (xs : List X) (x : X) → Contains xs x → Contains (map f xs) (f x)
  contains_mapped f [] x h = none_in_nil x h
  contains_mapped f (y ∷ xs) x h = elim (contains_cons x y xs h) [
    | inl same ↦ subst (λ z. Contains (f y ∷ map f xs) (f z)) same (contains_head (f y) (map f xs))
    | inr later ↦ contains_tail (f x) (f y) (map f xs) (contains_mapped f xs x later)
  ]
