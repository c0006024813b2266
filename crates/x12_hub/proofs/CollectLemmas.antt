-- What is collected of a mailbox is what waits there, each item with its bytes.
use Rattle.std.specs.Prelude.{◌≡◌, ℕ, suc, ◌+◌, ◌-◌, ◌<◌, ◌≤◌, List, [], ◌∷◌, Bool, true, false, ◌&&◌, ◌||◌, ◌==◌, cond, map, filter, slice_get, Option, Some, None, refl, filter_map, option_map, ◌⊎◌}
use Rattle.std.specs.List.{list_any, cons_option}
use mathlib.Core.Path.{sym, ap, subst, ◌∙◌}
use mathlib.Core.Logic.{inl, inr}
use native.Mathlib.Omega.{arith}
use Rattle.std.proofs.lemmas.Bool.{cases_lt}
use Rattle.std.proofs.lemmas.Bool.Decides.{eqb_tells}
use Rattle.x12_envelopes.specs.declared.party.Party.{Party}
use Rattle.x12_profile.specs.Interchange.{Bytes}
use Rattle.x12_hub.specs.Hub.{Hub, Decision, HubOutcome, Boxed, Refused, item_of, collect}
use Rattle.x12_hub.specs.Stored.{HubStored, WaitingItem, IsSoundHub, IsNumbered, HaveItemNumbers, decision_at, bytes_at, AllWaitRightly, AreRising, hub_of}
use Rattle.x12_hub.specs.Mailbox.{items_in_mailbox, is_waiting, with_bytes}

-- what is collected of decisions, with what waits of them
pub record Collected (h : Hub) (node : ℕ) (whole ds : List Decision) (ws : List WaitingItem) : Type 0 where
  pub items : filter_map (λ d. item_of h node d.body d.outcome) ds ≡ with_bytes whole (items_in_mailbox node ws)
  pub numbers : map (λ c. c.0) (filter_map (λ d. item_of h node d.body d.outcome) ds) ≡ items_in_mailbox node ws

nothing_at : (h : Hub) (node : ℕ) (b : Bytes) (o : HubOutcome) (n : ℕ) → IsNumbered n o → list_any (λ j. j == n) h.waiting ≡ false → item_of h node b o ≡ None
nothing_at h node b (Refused reply) n is none = refl
nothing_at h node b (Boxed to item) n is none = rw (is, none) (by (to == node))
  where
    by : (t : Bool) → cond {A = Option (ℕ × Bytes)} (t && false) (Some (n, b)) None ≡ None
    by true = refl
    by false = refl

one_at : (h : Hub) (node : ℕ) (b : Bytes) (to n : ℕ) → list_any (λ j. j == n) h.waiting ≡ true → item_of h node b (Boxed to n) ≡ cond (to == node) (Some (n, b)) None
one_at h node b to n there = rw there (by (to == node))
  where
    by : (t : Bool) → cond {A = Option (ℕ × Bytes)} (t && true) (Some (n, b)) None ≡ cond t (Some (n, b)) None
    by true = refl
    by false = refl

passed : (h : Hub) (node : ℕ) (whole ds : List Decision) (ws : List WaitingItem) (d : Decision) → item_of h node d.body d.outcome ≡ None → Collected h node whole ds ws → Collected h node whole (d ∷ ds) ws
passed h node whole ds ws d nothing rest = record { items = rw nothing (rest.items); numbers = rw nothing (rest.numbers) }

-- what waits at this decision, if it is this mailbox's
next_items : (t : Bool) (whole : List Decision) (item : ℕ) (b : Bytes) (cs : List (ℕ × Bytes)) (is : List ℕ) → bytes_at whole item ≡ Some b → cs ≡ with_bytes whole is → cons_option (cond t (Some (item, b)) None) cs ≡ with_bytes whole (cond t (item ∷ is) is)
next_items true whole item b cs is bytes e = rw bytes (ap (λ xs. (item, b) ∷ xs) e)
next_items false whole item b cs is bytes e = e

next_numbers : (t : Bool) (item : ℕ) (b : Bytes) (cs : List (ℕ × Bytes)) (is : List ℕ) → map (λ c. c.0) cs ≡ is → map (λ c. c.0) (cons_option (cond t (Some (item, b)) None) cs) ≡ cond t (item ∷ is) is
next_numbers true item b cs is e = ap (λ xs. item ∷ xs) e
next_numbers false item b cs is e = e

filtered : (t : Bool) (w : WaitingItem) (ws : List WaitingItem) → map (λ (v : WaitingItem). v.item) (cond t (w ∷ ws) ws) ≡ cond t (w.item ∷ map (λ v. v.item) ws) (map (λ v. v.item) ws)
filtered true w ws = refl
filtered false w ws = refl

joined : (h : Hub) (node : ℕ) (whole ds : List Decision) (w : WaitingItem) (ws : List WaitingItem) (b : Bytes) → bytes_at whole w.item ≡ Some b → list_any (λ j. j == w.item) h.waiting ≡ true → Collected h node whole ds ws → Collected h node whole (record { body = b; outcome = Boxed w.node w.item } ∷ ds) (w ∷ ws)
joined h node whole ds w ws b bytes there rest =
    let front = one_at h node b w.node w.item there in
    let split = filtered (w.node == node) w (filter (λ v. v.node == node) ws) in
    record {
      items = rw (front, split) (next_items (w.node == node) whole w.item b _ (items_in_mailbox node ws) bytes rest.items);
      numbers = rw (front, split) (next_numbers (w.node == node) w.item b _ (items_in_mailbox node ws) rest.numbers);
    }

same_decision : (whole : List Decision) (n : ℕ) (d e : Decision) → decision_at whole n ≡ Some d → decision_at whole n ≡ Some e → d ≡ e
same_decision whole n d e one other = some_is (sym one ∙ other)
  where
    some_is : {A : Type 0} {x y : A} → Some x ≡ Some y → x ≡ y
    some_is e = cc

none_above : (last n : ℕ) (ws : List WaitingItem) → n ≤ last → AreRising last ws → list_any (λ w. w.item == n) ws ≡ false
none_above last n [] le rising = refl
none_above last n (w ∷ ws) le rising = elim (eqb_tells w.item n) [
  | inl same ↦ (let is = same.1 in let lt = rising.0 in absurd (omega arith))
  | inr apart ↦ rw (apart.0) (none_above w.item n ws (let lt = rising.0 in omega arith) rising.1)
]

-- of the decisions behind the first so many, and what waits of them
collected_from : (h : Hub) (node : ℕ) (whole : List Decision) (last : ℕ) (ds : List Decision) (ws : List WaitingItem) → ((k : ℕ) → decision_at whole (last + 1 + k) ≡ slice_get ds k) → HaveItemNumbers (last + 1) ds → ((i : ℕ) → last < i → list_any (λ j. j == i) h.waiting ≡ list_any (λ w. w.item == i) ws) → AllWaitRightly whole ws → AreRising last ws → Collected h node whole ds ws
collected_from h node whole last [] [] at numbered among right rising = record { items = refl; numbers = refl }
collected_from h node whole last [] (w ∷ ws) at numbered among right rising =
    let lt = rising.0 in
    let place : last + 1 + (w.item - (last + 1)) ≡ w.item = omega arith in
    let none : decision_at whole w.item ≡ None = subst (λ k. decision_at whole k ≡ None) place (at (w.item - (last + 1))) in
    absurd (clash (record { body = right.0.0; outcome = Boxed w.node w.item }) (decision_at whole w.item) right.0.1 none)
  where
    clash : (d : Decision) (o : Option Decision) → o ≡ Some d → o ≡ None → ⊥
    clash d o some none = let both : Some d ≡ None = sym some ∙ none in absurd cc
collected_from h node whole last (d ∷ ds) [] at numbered among right rising =
    passed h node whole ds [] d (nothing_at h node d.body d.outcome (last + 1) numbered.0 (among (last + 1) (omega arith)))
    (collected_from h node whole (last + 1) ds [] (λ k. moved k) numbered.1 (λ i lt. among i (omega arith)) tt tt)
  where
    moved : (k : ℕ) → decision_at whole (last + 1 + 1 + k) ≡ slice_get ds k
    moved k = let one : last + 1 + suc k ≡ last + 1 + 1 + k = omega arith in subst (λ i. decision_at whole i ≡ slice_get ds k) one (at (suc k))
collected_from h node whole last (d ∷ ds) (w ∷ ws) at numbered among right rising = elim (eqb_tells w.item (last + 1)) [
  | inl same ↦
      let is = same.1 in
      let here : last + 1 + 0 ≡ w.item = omega arith in
      let at_item : decision_at whole w.item ≡ Some d = subst (λ k. decision_at whole k ≡ Some d) here (at 0) in
      let whole_is : d ≡ record { body = right.0.0; outcome = Boxed w.node w.item } = same_decision whole w.item d (record { body = right.0.0; outcome = Boxed w.node w.item }) at_item right.0.1 in
      let bytes : bytes_at whole w.item ≡ Some right.0.0 = ap (option_map (λ (x : Decision). x.body)) right.0.1 in
      let there : list_any (λ j. j == w.item) h.waiting ≡ true = among w.item rising.0 ∙ rw (itself w.item) refl in
      let tail : AreRising (last + 1) ws = subst (λ k. AreRising k ws) is rising.1 in
      subst (λ x. Collected h node whole (x ∷ ds) (w ∷ ws)) (sym whole_is)
      (joined h node whole ds w ws right.0.0 bytes there
      (collected_from h node whole (last + 1) ds ws (λ k. moved k) numbered.1 (λ i lt. among i (omega arith) ∙ skipped i (omega arith)) right.1 tail))
  | inr apart ↦
      let differs = apart.1 in
      let lt = rising.0 in
      let above : last + 1 < w.item = later w.item lt differs in
      passed h node whole ds (w ∷ ws) d (nothing_at h node d.body d.outcome (last + 1) numbered.0 (among (last + 1) (omega arith) ∙ rw (apart.0) (none_above w.item (last + 1) ws (omega arith) rising.1)))
      (collected_from h node whole (last + 1) ds (w ∷ ws) (λ k. moved k) numbered.1 (λ i more. among i (omega arith)) right (above, rising.1))
]
  where
    moved : (k : ℕ) → decision_at whole (last + 1 + 1 + k) ≡ slice_get ds k
    moved k = let one : last + 1 + suc k ≡ last + 1 + 1 + k = omega arith in subst (λ i. decision_at whole i ≡ slice_get ds k) one (at (suc k))

    itself : (n : ℕ) → n == n ≡ true
    itself n = elim (eqb_tells n n) [ inl same ↦ same.0 | inr apart ↦ absurd (apart.1 refl) ]

    skipped : (i : ℕ) → w.item < i → list_any (λ v. v.item == i) (w ∷ ws) ≡ list_any (λ v. v.item == i) ws
    skipped i lt = elim (eqb_tells w.item i) [
      | inl same ↦ (let is = same.1 in absurd (omega arith))
      | inr apart ↦ rw (apart.0) refl
    ]

    later : (n : ℕ) → last < n → (n ≡ last + 1 → ⊥) → last + 1 < n
    later n lt differs = by (cases_lt (last + 1) n)
      where
        by : ((last + 1 < n) ⊎ (n ≤ last + 1)) → last + 1 < n
        by (inl lt) = lt
        by (inr le) = absurd (differs (omega arith))

any_items : (i : ℕ) (ws : List WaitingItem) → list_any (λ j. j == i) (map (λ w. w.item) ws) ≡ list_any (λ w. w.item == i) ws
any_items i [] = refl
any_items i (w ∷ ws) = ap (λ b. (w.item == i) || b) (any_items i ws)

pub collected : (me : Party) (s : HubStored) (node : ℕ) → IsSoundHub s → Collected (hub_of me s) node s.decisions s.decisions s.waiting
collected me s node sound =
    collected_from (hub_of me s) node s.decisions 0 s.decisions s.waiting (λ k. first k) sound.numbered (λ i lt. any_items i s.waiting) sound.waits sound.rising
  where
    first : (k : ℕ) → decision_at s.decisions (0 + 1 + k) ≡ slice_get s.decisions k
    first k = let one : suc k ≡ 0 + 1 + k = omega arith in subst (λ i. decision_at s.decisions i ≡ slice_get s.decisions k) one refl

-- an item is among what is collected exactly if it waits there
any_numbers : (item : ℕ) (cs : List (ℕ × Bytes)) → list_any (λ c. c.0 == item) cs ≡ list_any (λ j. j == item) (map (λ c. c.0) cs)
any_numbers item [] = refl
any_numbers item (c ∷ cs) = ap (λ b. (c.0 == item) || b) (any_numbers item cs)

pub any_of_node : (node item : ℕ) (ws : List WaitingItem) → list_any (λ j. j == item) (items_in_mailbox node ws) ≡ is_waiting ws node item
any_of_node node item [] = refl
any_of_node node item (w ∷ ws) = by (w.node == node) (any_of_node node item ws)
  where
    by : (t : Bool) → list_any (λ j. j == item) (items_in_mailbox node ws) ≡ is_waiting ws node item → list_any (λ j. j == item) (map (λ (v : WaitingItem). v.item) (cond t (w ∷ filter (λ v. v.node == node) ws) (filter (λ v. v.node == node) ws))) ≡ ((t && (w.item == item)) || is_waiting ws node item)
    by true e = ap (λ b. (w.item == item) || b) e
    by false e = e

pub was_there : (me : Party) (s : HubStored) (node item : ℕ) → IsSoundHub s → list_any (λ c. c.0 == item) (collect (hub_of me s) node) ≡ is_waiting s.waiting node item
was_there me s node item sound =
    let all = collected me s node sound in
    any_numbers item (collect (hub_of me s) node) ∙ ap (list_any (λ j. j == item)) all.numbers ∙ any_of_node node item s.waiting
