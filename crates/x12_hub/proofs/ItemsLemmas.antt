-- The items of a mailbox in memory are those that wait there in the records, in the same order.
use Rattle.std.specs.Prelude.{◌≡◌, ℕ, suc, ◌<◌, ◌≤◌, List, [], ◌∷◌, Bool, true, false, ◌&&◌, ◌||◌, ◌==◌, nat_le, cond, map, filter, length, refl}
use Rattle.std.specs.List.{list_any, AllByRecursion}
use Rattle.std.specs.List.Sorted.{IsStrictlySortedBy}
use Rattle.std.specs.Ordering.{is_eq}
use Rattle.std.specs.declared.cmp.Ordering.TheVariants.{Less}
use Rattle.std.specs.BTreeSet.{BTreeSet, IsOrdered}
use mathlib.Core.Path.{sym, ap, ap₂, subst, ◌∙◌}
use mathlib.Core.Logic.{inl, inr}
use native.Mathlib.Omega.{arith}
use Rattle.std.proofs.lemmas.Bool.{cases_lt}
use Rattle.std.proofs.lemmas.Bool.Decides.{eqb_tells, nat_tests}
use Rattle.std.proofs.lemmas.Map.Keys.{sorted_head, sorted_tail}
use Rattle.x12_hub.specs.Hub.{Decision}
use Rattle.x12_hub.specs.Stored.{HubStored, WaitingItem, IsSoundHub, AllWaitRightly, AreRising}
use Rattle.x12_hub.specs.Record.{waiting_view}
use Rattle.x12_hub.specs.Mailbox.{items_in_mailbox, items_in, is_of_node, is_waiting, key_order, HoldsWaiting}
use Rattle.x12_hub.proofs.SoundLemmas.{rises_filtered, at_within}
use Rattle.x12_hub.proofs.MailboxLemmas.{waits_there}
use Rattle.x12_hub.proofs.CollectLemmas.{any_of_node}
use Rattle.x12_numbers.proofs.Shelf.{eq_itself, never_both}

-- numbers rise, from this one on
abbrev pub Rise : ℕ → List ℕ → Type 0
Rise low [] = Unit {0}
Rise low (x ∷ xs) = (low ≤ x) × Rise (suc x) xs

none_under : (low n : ℕ) (xs : List ℕ) → Rise low xs → n < low → list_any (λ k. k == n) xs ≡ false
none_under low n [] rise lt = refl
none_under low n (x ∷ xs) rise lt = elim (eqb_tells x n) [
  | inl same ↦ (let is = same.1 in let le = rise.0 in absurd (omega arith))
  | inr apart ↦ rw (apart.0) (none_under (suc x) n xs rise.1 (let le = rise.0 in omega arith))
]

first_there : (x : ℕ) (xs : List ℕ) → list_any (λ k. k == x) (x ∷ xs) ≡ true
first_there x xs = rw (eq_itself x) refl

-- lists that rise and have the same numbers are one
pub same_rising : (low : ℕ) (xs ys : List ℕ) → Rise low xs → Rise low ys → ((i : ℕ) → list_any (λ k. k == i) xs ≡ list_any (λ k. k == i) ys) → xs ≡ ys
same_rising low [] [] rx ry same = refl
same_rising low [] (y ∷ ys) rx ry same = absurd (never_both (list_any (λ k. k == y) (y ∷ ys)) (first_there y ys) (sym (same y)))
same_rising low (x ∷ xs) [] rx ry same = absurd (never_both (list_any (λ k. k == x) (x ∷ xs)) (first_there x xs) (same x))
same_rising low (x ∷ xs) (y ∷ ys) rx ry same = elim (cases_lt x y) [
  | inl lt ↦ absurd (never_both (list_any (λ k. k == x) (x ∷ xs)) (first_there x xs) (same x ∙ none_under (suc x) x (y ∷ ys) (lt, ry.1) (omega arith)))
  | inr ge ↦ elim (cases_lt y x) [
    | inl lt ↦ absurd (never_both (list_any (λ k. k == y) (y ∷ ys)) (first_there y ys) (sym (same y) ∙ none_under (suc y) y (x ∷ xs) (lt, rx.1) (omega arith)))
    | inr le ↦
        let is : x ≡ y = omega arith in
        ap₂ (λ (z : ℕ) zs. z ∷ zs) is (same_rising (suc x) xs ys rx.1 (subst (λ z. Rise (suc z) ys) (sym is) ry.1) (tails (sym is)))
  ]
]
  where
    tails : y ≡ x → (i : ℕ) → list_any (λ k. k == i) xs ≡ list_any (λ k. k == i) ys
    tails is i = elim (eqb_tells x i) [
      | inl at ↦
          let here = at.1 in
          none_under (suc x) i xs rx.1 (omega arith) ∙ sym (none_under (suc y) i ys ry.1 (omega arith))
      | inr apart ↦
          let both = same i in
          let left : list_any (λ k. k == i) (x ∷ xs) ≡ list_any (λ k. k == i) xs = rw (apart.0) refl in
          let other : (y == i) ≡ false = subst (λ z. (z == i) ≡ false) (sym is) apart.0 in
          let right : list_any (λ k. k == i) (y ∷ ys) ≡ list_any (λ k. k == i) ys = rw other refl in
          sym left ∙ both ∙ right
    ]

-- what waits rises
rise_map : (last : ℕ) (ws : List WaitingItem) → AreRising last ws → Rise (suc last) (map (λ (w : WaitingItem). w.item) ws)
rise_map last [] rising = tt
rise_map last (w ∷ ws) rising = (let lt = rising.0 in omega arith, rise_map w.item ws rising.1)

rise_from : (low high : ℕ) (xs : List ℕ) → low ≤ high → Rise high xs → Rise low xs
rise_from low high [] le rise = tt
rise_from low high (x ∷ xs) le rise = (let above = rise.0 in omega arith, rise.1)

-- and so do a node's items in memory
pub of_node : (node last : ℕ) (k : ℕ × ℕ) → is_of_node node last k ≡ ((node == k.0) && nat_le k.1 last)
of_node node last k = grind (arith, nat_tests)

less_item : (node last : ℕ) (k y : ℕ × ℕ) → is_of_node node last k ≡ true → is_of_node node last y ≡ true → key_order k y ≡ Less → suc k.1 ≤ y.1
less_item node last k y mine theirs less =
    let a : ((node == k.0) && nat_le k.1 last) ≡ true = sym (of_node node last k) ∙ mine in
    let b : ((node == y.0) && nat_le y.1 last) ≡ true = sym (of_node node last y) ∙ theirs in
    grind (arith, nat_tests)

abbrev Above : ℕ → ℕ → ℕ → List (ℕ × ℕ) → Type 0
Above node last low ks = AllByRecursion (λ (k : ℕ × ℕ). is_of_node node last k ≡ true → low ≤ k.1) ks

after : (node last : ℕ) (k : ℕ × ℕ) (ks : List (ℕ × ℕ)) → is_of_node node last k ≡ true → AllByRecursion (λ y. key_order k y ≡ Less) ks → Above node last (suc k.1) ks
after node last k [] mine less = tt
after node last k (y ∷ ys) mine less = (λ theirs. less_item node last k y mine theirs less.0, after node last k ys mine less.1)

any_from_zero : (node last : ℕ) (ks : List (ℕ × ℕ)) → Above node last 0 ks
any_from_zero node last [] = tt
any_from_zero node last (k ∷ ks) = (λ mine. omega arith, any_from_zero node last ks)

keys_rise : (node last low : ℕ) (ks : List (ℕ × ℕ)) → IsStrictlySortedBy key_order ks → Above node last low ks → Rise low (map (λ (k : ℕ × ℕ). k.1) (filter (is_of_node node last) ks))
keys_rise node last low [] sorted above = tt
keys_rise node last low (k ∷ ks) sorted above = by (is_of_node node last k) refl (λ low above. keys_rise node last low ks (sorted_tail key_order k ks sorted) above)
  where
    by : (t : Bool) → is_of_node node last k ≡ t → ((low : ℕ) → Above node last low ks → Rise low (map (λ (k : ℕ × ℕ). k.1) (filter (is_of_node node last) ks))) → Rise low (map (λ (k : ℕ × ℕ). k.1) (cond t (k ∷ filter (is_of_node node last) ks) (filter (is_of_node node last) ks)))
    by true mine rest = (above.0 mine, rest (suc k.1) (after node last k ks mine (sorted_head key_order k ks sorted)))
    by false mine rest = rest low above.1

-- an item is among a node's items in memory exactly if its key is there
key_test : (node last i : ℕ) (k : ℕ × ℕ) → (is_of_node node last k && (k.1 == i)) ≡ (nat_le i last && is_eq (key_order (node, i) k))
key_test node last i k = grind (arith, nat_tests)

split : (m t r : Bool) → ((m && t) || (m && r)) ≡ (m && (t || r))
split true t r = refl
split false t r = refl

any_keys : (node last i : ℕ) (ks : List (ℕ × ℕ)) → list_any (λ j. j == i) (map (λ (k : ℕ × ℕ). k.1) (filter (is_of_node node last) ks)) ≡ (nat_le i last && list_any (λ k. is_eq (key_order (node, i) k)) ks)
any_keys node last i [] = by (nat_le i last)
  where
    by : (t : Bool) → false ≡ (t && false)
    by true = refl
    by false = refl
any_keys node last i (k ∷ ks) = by (is_of_node node last k) ∙ ap₂ (λ a b. a || b) (key_test node last i k) (any_keys node last i ks) ∙ split (nat_le i last) (is_eq (key_order (node, i) k)) (list_any (λ k. is_eq (key_order (node, i) k)) ks)
  where
    by : (t : Bool) → list_any (λ j. j == i) (map (λ (k : ℕ × ℕ). k.1) (cond t (k ∷ filter (is_of_node node last) ks) (filter (is_of_node node last) ks))) ≡ ((t && (k.1 == i)) || list_any (λ j. j == i) (map (λ (k : ℕ × ℕ). k.1) (filter (is_of_node node last) ks)))
    by true = refl
    by false = refl

none_beyond : (ds : List Decision) (node i : ℕ) (ws : List WaitingItem) → AllWaitRightly ds ws → length ds < i → is_waiting ws node i ≡ false
none_beyond ds node i ws all lt = by (is_waiting ws node i) refl
  where
    by : (t : Bool) → is_waiting ws node i ≡ t → t ≡ false
    by true there =
        let right = waits_there ds node i ws all there in
        let within = at_within ds i (record { body = right.0; outcome = _ }) right.1 in
        absurd (omega arith)
    by false there = refl

pub items_are : (s : HubStored) (m : BTreeSet (ℕ × ℕ)) (node last : ℕ) → IsSoundHub s → last ≡ s.item → IsOrdered key_order m → HoldsWaiting m s.waiting → items_in m node last ≡ items_in_mailbox node s.waiting
items_are s m node last sound is sorted holds =
    same_rising 0 (items_in m node last) (items_in_mailbox node s.waiting)
    (keys_rise node last 0 m.keys sorted (any_from_zero node last m.keys))
    (rise_from 0 1 (items_in_mailbox node s.waiting) (omega arith) (rise_map 0 (filter (λ w. w.node == node) s.waiting) (rises_filtered (λ w. w.node == node) 0 s.waiting sound.rising)))
    (λ i. any_keys node last i m.keys ∙ ap (λ b. nat_le i last && b) (holds node i) ∙ bounded i ∙ sym (any_of_node node i s.waiting))
  where
    bounded : (i : ℕ) → (nat_le i last && is_waiting s.waiting node i) ≡ is_waiting s.waiting node i
    bounded i = by (nat_le i last) refl
      where
        by : (t : Bool) → nat_le i last ≡ t → (t && is_waiting s.waiting node i) ≡ is_waiting s.waiting node i
        by true le = refl
        by false le = let count = sound.count in sym (none_beyond s.decisions node i s.waiting sound.waits (grind (arith, nat_tests)))

-- and those of memory as it is seen
pub kept_are : (node last : ℕ) (ks : List (ℕ × ℕ)) → map (λ (k : ℕ × ℕ). k.1) (filter (is_of_node node last) ks) ≡ map (λ (w : WaitingItem). w.item) (filter (λ w. (w.node == node) && nat_le w.item last) (map waiting_view ks))
kept_are node last [] = refl
kept_are node last (k ∷ ks) = rw (here k) (by ((k.0 == node) && nat_le k.1 last) (kept_are node last ks))
  where
    here : (k : ℕ × ℕ) → is_of_node node last k ≡ ((k.0 == node) && nat_le k.1 last)
    here k = grind (arith, nat_tests)

    by : (t : Bool) → map (λ (k : ℕ × ℕ). k.1) (filter (is_of_node node last) ks) ≡ map (λ (w : WaitingItem). w.item) (filter (λ w. (w.node == node) && nat_le w.item last) (map waiting_view ks))
        → map (λ (k : ℕ × ℕ). k.1) (cond t (k ∷ filter (is_of_node node last) ks) (filter (is_of_node node last) ks)) ≡ map (λ (w : WaitingItem). w.item) (cond t (waiting_view k ∷ filter (λ w. (w.node == node) && nat_le w.item last) (map waiting_view ks)) (filter (λ w. (w.node == node) && nat_le w.item last) (map waiting_view ks)))
    by true rest = ap (λ xs. k.1 ∷ xs) rest
    by false rest = rest
