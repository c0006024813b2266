-- What waits, kept as a map in the order of the items.
use Rattle.std.proofs.Common.{ℕ, ◌≡◌, ◌<◌, ◌≤◌, ap, sym, refl, Bool, true, false, cond, eqb, ltb, List, [], ◌∷◌, map, arith, inl, inr}
use Rattle.std.specs.Prelude.{filter, nat_lt}
use Rattle.std.specs.List.{AllByRecursion}
use Rattle.std.specs.List.Sorted.{IsStrictlySortedBy}
use Rattle.std.specs.declared.cmp.Ordering.TheVariants.{Less, Greater}
use Rattle.std.specs.Ordering.{nat_cmp, is_eq}
use Rattle.std.specs.Map.{keys_of, remove_entry}
use Rattle.std.specs.BTreeMap.{insert_entry, is_at}
use Rattle.std.proofs.lemmas.Bool.{cases_lt, ltb-true, lt-ltb}
use Rattle.std.proofs.lemmas.Bool.Decides.{eqb_tells}
use Rattle.std.proofs.lemmas.Cmp.{ranked}
use Rattle.std.proofs.lemmas.Map.Keys.{sorted_head, sorted_tail}
use Rattle.x12_hub.specs.Plan.{put_waiting, take_waiting}
use Rattle.x12_hub.specs.Memory.{waiting_under}

pub not_below : (x y : ℕ) → y ≤ x → ltb x y ≡ false
not_below x y le = by (ltb x y) refl
  where
    by : (t : Bool) → ltb x y ≡ t → t ≡ false
    by true e = let lt = ltb-true x y e in absurd (omega arith)
    by false e = refl

not_same : (x y : ℕ) → x < y → eqb y x ≡ false
not_same x y lt = elim (eqb_tells y x) [ inl same ↦ let is = same.1 in absurd (omega arith) | inr apart ↦ apart.0 ]

less : (x y : ℕ) → nat_cmp x y ≡ Less → x < y
less x y e = ranked x y Less (sym e)

-- a number is below each key
abbrev pub IsUnder : ℕ → List (ℕ × ℕ) → Type 0
IsUnder m es = AllByRecursion (λ y. nat_cmp m y ≡ Less) (keys_of es)

none_below : (k m : ℕ) (es : List (ℕ × ℕ)) → k ≤ m → IsUnder m es → filter (λ w. nat_lt w.item k) (map waiting_under es) ≡ []
none_below k m [] le under = refl
none_below k m (e ∷ es) le under =
    let lt = less m e.0 under.0 in
    rw (not_below e.0 k (omega arith)) (none_below k m es le under.1)

all_above : (k m : ℕ) (es : List (ℕ × ℕ)) → k ≤ m → IsUnder m es → filter (λ w. nat_lt k w.item) (map waiting_under es) ≡ map waiting_under es
all_above k m [] le under = refl
all_above k m (e ∷ es) le under =
    let lt = less m e.0 under.0 in
    rw (lt-ltb k e.0 (omega arith)) (ap (λ ws. waiting_under e ∷ ws) (all_above k m es le under.1))

all_others : (k m : ℕ) (es : List (ℕ × ℕ)) → k ≤ m → IsUnder m es → take_waiting k (map waiting_under es) ≡ map waiting_under es
all_others k m [] le under = refl
all_others k m (e ∷ es) le under =
    let lt = less m e.0 under.0 in
    rw (not_same k e.0 (omega arith)) (ap (λ ws. waiting_under e ∷ ws) (all_others k m es le under.1))

-- what is put into the map waits
pub put_is : (es : List (ℕ × ℕ)) (k v : ℕ) → IsStrictlySortedBy nat_cmp (keys_of es) → map waiting_under (insert_entry nat_cmp es k v) ≡ put_waiting v k (map waiting_under es)
put_is [] k v sorted = refl
put_is (e ∷ es) k v sorted =
    let under = sorted_head nat_cmp e.0 (keys_of es) sorted in
    elim (cases_lt k e.0) [
      | inl lt ↦ rw (lt-ltb k e.0 lt, not_below e.0 k (omega arith), none_below k e.0 es (omega arith) under, all_above k e.0 es (omega arith) under) refl
      | inr le ↦ elim (eqb_tells k e.0) [
        | inl same ↦
            let is = same.1 in
            rw (not_below k e.0 le, same.0, not_below e.0 k (omega arith), none_below k e.0 es (omega arith) under, all_above k e.0 es (omega arith) under)
            (ap (λ n. record { node = v; item = n } ∷ map waiting_under es) (sym is))
        | inr apart ↦
            let differs = apart.1 in
            let lt : e.0 < k = above k e.0 le differs in
            rw (not_below k e.0 le, apart.0, lt-ltb e.0 k lt)
            (ap (λ ws. waiting_under e ∷ ws) (put_is es k v (sorted_tail nat_cmp e.0 (keys_of es) sorted)))
      ]
    ]
  where
    above : (x y : ℕ) → y ≤ x → (x ≡ y → ⊥) → y < x
    above x y le differs = elim (cases_lt y x) [ inl lt ↦ lt | inr ge ↦ absurd (differs (omega arith)) ]

at_same : (x y : ℕ) → x ≡ y → is_eq (nat_cmp x y) ≡ true
at_same x y e = rw (not_below x y (omega arith), same x y e) refl
  where
    same : (x y : ℕ) → x ≡ y → eqb x y ≡ true
    same x y e = elim (eqb_tells x y) [ inl is ↦ is.0 | inr apart ↦ absurd (apart.1 e) ]

at_other : (x y : ℕ) → (x ≡ y → ⊥) → is_eq (nat_cmp x y) ≡ false
at_other x y differs = elim (eqb_tells x y) [ inl is ↦ absurd (differs is.1) | inr apart ↦ rw (apart.0) (by (ltb x y)) ]
  where
    by : (t : Bool) → is_eq (cond t Less Greater) ≡ false
    by true = refl
    by false = refl

-- what is taken out of the map waits no more
pub take_is : (es : List (ℕ × ℕ)) (k : ℕ) → IsStrictlySortedBy nat_cmp (keys_of es) → map waiting_under (remove_entry (is_at (nat_cmp k)) es) ≡ take_waiting k (map waiting_under es)
take_is [] k sorted = refl
take_is (e ∷ es) k sorted =
    let under = sorted_head nat_cmp e.0 (keys_of es) sorted in
    elim (eqb_tells e.0 k) [
      | inl same ↦
          let is = same.1 in
          rw (at_same k e.0 (sym is), same.0) (sym (all_others k e.0 es (omega arith) under))
      | inr apart ↦
          rw (at_other k e.0 (λ is. apart.1 (sym is)), apart.0)
          (ap (λ ws. waiting_under e ∷ ws) (take_is es k (sorted_tail nat_cmp e.0 (keys_of es) sorted)))
    ]
