-- What waits in the mailboxes in memory, beside what waits in the records.
use Rattle.std.specs.Prelude.{◌≡◌, ℕ, suc, ◌+◌, ◌<◌, ◌≤◌, List, [], ◌∷◌, Bool, true, false, ◌&&◌, ◌||◌, not, ◌==◌, nat_lt, cond, Some, refl, filter, map, drop}
use Rattle.std.specs.List.{list_any}
use Rattle.std.specs.Ordering.{is_eq, match_ordering}
use Rattle.std.specs.declared.cmp.Ordering.{Ordering}
use Rattle.std.specs.declared.cmp.Ordering.TheVariants.{Less, Equal, Greater}
use Rattle.std.specs.BTreeSet.{BTreeSet, contains, insert_key}
use Rattle.std.specs.Set.{remove_key}
use mathlib.Core.Path.{sym, ap, ap₂, subst, ◌∙◌}
use mathlib.Core.Logic.{inl, inr}
use native.Mathlib.Omega.{arith}
use Rattle.std.proofs.lemmas.Bool.{cases_lt, ltb-true, lt-ltb, not-true}
use Rattle.std.proofs.lemmas.Bool.Decides.{eqb_tells, nat_tests}
use Rattle.std.proofs.lemmas.List.Folds.{list_any-append}
use Rattle.x12_hub.specs.Hub.{Decision, Boxed}
use Rattle.x12_hub.specs.Stored.{WaitingItem, WaitsRightly, AllWaitRightly, decision_at}
use Rattle.x12_hub.specs.Plan.{put_waiting, take_waiting}
use Rattle.x12_hub.specs.Mailbox.{is_waiting, key_order, HoldsWaiting}
use Rattle.x12_hub.specs.Record.{waiting_view}
use Rattle.x12_numbers.proofs.Shelf.{some_inj, eq_itself}

-- two keys are one where both parts are
pub is_same_key : (a b : ℕ × ℕ) → is_eq (key_order a b) ≡ ((a.0 == b.0) && (a.1 == b.1))
is_same_key a b = grind (arith, nat_tests)

-- an item waits in this node's mailbox alone
abbrev pub Only : ℕ → ℕ → List WaitingItem → Type 0
Only node item [] = Unit {0}
Only node item (w ∷ ws) = (w.item ≡ item → w.node ≡ node) × Only node item ws

boxed_node : {n m i j : ℕ} → Boxed n i ≡ Boxed m j → n ≡ m
boxed_node e = cc

pub only_there : (ds : List Decision) (node item : ℕ) (ws : List WaitingItem) → AllWaitRightly ds ws → WaitsRightly ds (record { node = node; item = item }) → Only node item ws
only_there ds node item [] all right = tt
only_there ds node item (w ∷ ws) all right = (one, only_there ds node item ws all.1 right)
  where
    one : w.item ≡ item → w.node ≡ node
    one same =
        let mine : decision_at ds item ≡ Some (record { body = all.0.0; outcome = Boxed w.node w.item }) = subst (λ k. decision_at ds k ≡ Some (record { body = all.0.0; outcome = Boxed w.node w.item })) same all.0.1 in
        let both = some_inj (sym mine ∙ right.1) in
        boxed_node (ap (λ (d : Decision). d.outcome) both)

-- what is tested of a list once one of its elements is passed
first_case : (p a t b w : Bool) → (a || (t || b)) ≡ (t || w) → ((p || a) || (t || b)) ≡ (t || (p || w))
first_case true a true b w e = refl
first_case true a false b w e = refl
first_case false a t b w e = e

last_case : (p a t b w : Bool) → (a || (t || b)) ≡ (t || w) → (a || (t || (p || b))) ≡ (t || (p || w))
last_case true true true b w e = refl
last_case true true false b w e = refl
last_case true false true b w e = refl
last_case true false false b w e = refl
last_case false a t b w e = e

same_case : (a t b w : Bool) → (a || (t || b)) ≡ (t || w) → (a || (t || b)) ≡ (t || (t || w))
same_case a true b w e = e
same_case a false b w e = e

dropped_case : (l t w : Bool) → l ≡ cond t false w → l ≡ cond t false (t || w)
dropped_case l true w e = e
dropped_case l false w e = e

left_case : (p t l w : Bool) → (t ≡ true → p ≡ false) → l ≡ cond t false w → (p || l) ≡ cond t false (p || w)
left_case true true l w apart e = let never = apart refl in absurd cc
left_case true false l w apart e = refl
left_case false true l w apart e = e
left_case false false l w apart e = e

not_below : (x y : ℕ) → y ≤ x → nat_lt x y ≡ false
not_below x y le = by (nat_lt x y) refl
  where
    by : (t : Bool) → nat_lt x y ≡ t → t ≡ false
    by true e = let lt = ltb-true x y e in absurd (omega arith)
    by false e = refl

-- the test of one item
abbrev is_at : ℕ → ℕ → WaitingItem → Bool
is_at n i w = (w.node == n) && (w.item == i)

at_there : (node item n i : ℕ) (w : WaitingItem) → (w.item ≡ item) → (w.node ≡ node) → is_at n i w ≡ ((node == n) && (item == i))
at_there node item n i w same there = ap₂ (λ (a b : ℕ). (a == n) && (b == i)) there same

-- once an item is put, it waits, and so does what waited
pub put_tells : (node item n i : ℕ) (ws : List WaitingItem) → Only node item ws → is_waiting (put_waiting node item ws) n i ≡ (((node == n) && (item == i)) || is_waiting ws n i)
put_tells node item n i ws only =
    list_any-append (is_at n i) (filter (λ w. nat_lt w.item item) ws) (record { node = node; item = item } ∷ filter (λ w. nat_lt item w.item) ws)
    ∙ parts ws only
  where
    t : Bool
    t = (node == n) && (item == i)

    parts : (ws : List WaitingItem) → Only node item ws → (list_any (is_at n i) (filter (λ w. nat_lt w.item item) ws) || (t || list_any (is_at n i) (filter (λ w. nat_lt item w.item) ws))) ≡ (t || list_any (is_at n i) ws)
    parts [] only = refl
    parts (w ∷ ws) only = elim (cases_lt w.item item) [
      | inl lt ↦ rw (lt-ltb w.item item lt, not_below item w.item (omega arith)) (first_case (is_at n i w) _ t _ _ (parts ws only.1))
      | inr ge ↦ elim (eqb_tells w.item item) [
        | inl same ↦
            let is = same.1 in
            rw (not_below w.item item ge, not_below item w.item (omega arith), at_there node item n i w is (only.0 is)) (same_case _ t _ _ (parts ws only.1))
        | inr apart ↦
            let lt : item < w.item = above w.item item ge apart.1 in
            rw (not_below w.item item ge, lt-ltb item w.item lt) (last_case (is_at n i w) _ t _ _ (parts ws only.1))
      ]
    ]
      where
        above : (x y : ℕ) → y ≤ x → (x ≡ y → ⊥) → y < x
        above x y le differs = elim (cases_lt y x) [ inl lt ↦ lt | inr ge ↦ absurd (differs (omega arith)) ]

-- once an item is taken, what waits is the rest
pub take_tells : (node item n i : ℕ) (ws : List WaitingItem) → Only node item ws → is_waiting (take_waiting item ws) n i ≡ cond ((node == n) && (item == i)) false (is_waiting ws n i)
take_tells node item n i [] only = by ((node == n) && (item == i))
  where
    by : (t : Bool) → false ≡ cond t false false
    by true = refl
    by false = refl
take_tells node item n i (w ∷ ws) only = elim (eqb_tells w.item item) [
  | inl same ↦
      let is = same.1 in
      rw (same.0, at_there node item n i w is (only.0 is)) (dropped_case _ ((node == n) && (item == i)) _ (take_tells node item n i ws only.1))
  | inr apart ↦ rw (apart.0) (left_case (is_at n i w) ((node == n) && (item == i)) _ _ (other apart.1) (take_tells node item n i ws only.1))
]
  where
    other : (w.item ≡ item → ⊥) → ((node == n) && (item == i)) ≡ true → is_at n i w ≡ false
    other differs both = grind (arith, nat_tests)

-- what the set in memory holds after it
pub holds_put : (old new : BTreeSet (ℕ × ℕ)) (node item : ℕ) (ws : List WaitingItem) → HoldsWaiting old ws → Only node item ws → ((n i : ℕ) → contains key_order new (n, i) ≡ (((node == n) && (item == i)) || contains key_order old (n, i))) → HoldsWaiting new (put_waiting node item ws)
holds_put old new node item ws holds only put = λ n i.
    put n i ∙ ap (λ b. ((node == n) && (item == i)) || b) (holds n i) ∙ sym (put_tells node item n i ws only)

pub holds_take : (old new : BTreeSet (ℕ × ℕ)) (node item : ℕ) (ws : List WaitingItem) → HoldsWaiting old ws → Only node item ws → ((k : ℕ × ℕ) → contains key_order new k ≡ cond (is_eq (key_order (node, item) k)) false (contains key_order old k)) → HoldsWaiting new (take_waiting item ws)
holds_take old new node item ws holds only taken = λ n i.
    taken (n, i) ∙ ap₂ (λ a b. cond a false b) (is_same_key (node, item) (n, i)) (holds n i) ∙ sym (take_tells node item n i ws only)

-- an item that waits was boxed so
pub waits_there : (ds : List Decision) (node item : ℕ) (ws : List WaitingItem) → AllWaitRightly ds ws → is_waiting ws node item ≡ true → WaitsRightly ds (record { node = node; item = item })
waits_there ds node item [] all e = absurd cc
waits_there ds node item (w ∷ ws) all e = by (is_at node item w) refl e (λ rest. waits_there ds node item ws all.1 rest)
  where
    here : (a b : ℕ) → a ≡ node → b ≡ item → WaitsRightly ds (record { node = a; item = b }) → WaitsRightly ds (record { node = node; item = item })
    here a b there same right = subst (λ x. WaitsRightly ds (record { node = x; item = item })) there (subst (λ y. WaitsRightly ds (record { node = a; item = y })) same right)

    by : (t : Bool) → is_at node item w ≡ t → (t || is_waiting ws node item) ≡ true → (is_waiting ws node item ≡ true → WaitsRightly ds (record { node = node; item = item })) → WaitsRightly ds (record { node = node; item = item })
    by true at e rest = here w.node w.item (grind (arith, nat_tests)) (grind (arith, nat_tests)) all.0
    by false at e rest = rest e

-- a key that is put into the set
module _ (old mid : BTreeSet (ℕ × ℕ)) (key : ℕ × ℕ) (put : (q : ℕ × ℕ) → contains key_order mid q ≡ cond (is_eq (key_order key q)) true (contains key_order old q)) where
  pub put_at : (n i : ℕ) → contains key_order mid (n, i) ≡ (((key.0 == n) && (key.1 == i)) || contains key_order old (n, i))
  put_at n i = put (n, i) ∙ ap (λ t. cond t true (contains key_order old (n, i))) (is_same_key key (n, i)) ∙ or_is ((key.0 == n) && (key.1 == i)) (contains key_order old (n, i))
    where
      or_is : (t b : Bool) → cond t true b ≡ (t || b)
      or_is true b = refl
      or_is false b = refl

-- a key that is put among others and taken out again
undone_among : (key : ℕ × ℕ) (ks : List (ℕ × ℕ)) → list_any (λ k. is_eq (key_order key k)) ks ≡ false → remove_key (λ k. is_eq (key_order key k)) (insert_key key_order ks key) ≡ ks
undone_among key [] absent = rw (is_same_key key key, eq_itself key.0, eq_itself key.1) refl
undone_among key (k ∷ ks) absent = by (key_order key k) refl (undone_among key ks)
  where
    by : (o : Ordering) → key_order key k ≡ o → (list_any (λ k. is_eq (key_order key k)) ks ≡ false → remove_key (λ k. is_eq (key_order key k)) (insert_key key_order ks key) ≡ ks)
        → remove_key (λ k. is_eq (key_order key k)) (match_ordering o (key ∷ k ∷ ks) (k ∷ ks) (k ∷ insert_key key_order ks key)) ≡ k ∷ ks
    by Less e rest = rw (is_same_key key key, eq_itself key.0, eq_itself key.1) refl
    by Equal e rest = let there : true ≡ false = subst (λ o. (is_eq o || list_any (λ k. is_eq (key_order key k)) ks) ≡ false) e absent in absurd cc
    by Greater e rest =
        let others : list_any (λ k. is_eq (key_order key k)) ks ≡ false = subst (λ o. (is_eq o || list_any (λ k. is_eq (key_order key k)) ks) ≡ false) e absent in
        ap (λ o. cond (is_eq o) (insert_key key_order ks key) (k ∷ remove_key (λ k. is_eq (key_order key k)) (insert_key key_order ks key))) e ∙ ap (λ xs. k ∷ xs) (rest others)

-- sets with the same keys are one
pub same_set : (old new : BTreeSet (ℕ × ℕ)) → new.keys ≡ old.keys → new ≡ old
same_set old new same = λ i. record { keys = same i }

-- so the set is as it was where a new key is put in and taken out again
pub put_undone : (old mid new : BTreeSet (ℕ × ℕ)) (key : ℕ × ℕ) → not (contains key_order old key) ≡ true → mid.keys ≡ insert_key key_order old.keys key → new.keys ≡ remove_key (λ k. is_eq (key_order key k)) mid.keys → new ≡ old
put_undone old mid new key absent put out = same_set old new (out ∙ ap (remove_key (λ k. is_eq (key_order key k))) put ∙ undone_among key old.keys (not-true _ absent))

-- what waits is put into the set one by one
pub put_next : (old new : BTreeSet (ℕ × ℕ)) (xs : List (ℕ × ℕ)) (k : ℕ) (w : ℕ × ℕ) → drop k xs ≡ w ∷ drop (suc k) xs → ((n i : ℕ) → (contains key_order old (n, i) || is_waiting (map waiting_view (drop k xs)) n i) ≡ is_waiting (map waiting_view xs) n i) → ((q : ℕ × ℕ) → contains key_order new q ≡ cond (is_eq (key_order w q)) true (contains key_order old q)) → (n i : ℕ) → (contains key_order new (n, i) || is_waiting (map waiting_view (drop (k + 1) xs)) n i) ≡ is_waiting (map waiting_view xs) n i
put_next old new xs k w split all put n i =
    ap (λ b. b || is_waiting (map waiting_view (drop (k + 1) xs)) n i) (put_at old new w put n i)
    ∙ turned ((w.0 == n) && (w.1 == i)) (contains key_order old (n, i)) (is_waiting (map waiting_view (drop (k + 1) xs)) n i)
    ∙ ap (λ (ys : List (ℕ × ℕ)). contains key_order old (n, i) || is_waiting (map waiting_view ys) n i) (sym (next k split))
    ∙ all n i
  where
    next : (k : ℕ) → drop k xs ≡ w ∷ drop (suc k) xs → drop k xs ≡ w ∷ drop (k + 1) xs
    next k split = let one : suc k ≡ k + 1 = omega arith in subst (λ j. drop k xs ≡ w ∷ drop j xs) one split

    turned : (t a r : Bool) → ((t || a) || r) ≡ (a || (t || r))
    turned true true r = refl
    turned true false r = refl
    turned false a r = refl
