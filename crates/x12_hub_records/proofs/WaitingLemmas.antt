-- The table of what waits in the mailboxes.
use Rattle.std.proofs.Common.{◌≡◌, ◌<◌, ◌==◌, ◌++◌, ℕ, pos, List, [], ◌∷◌, map, filter, not, nat_lt, true, false, Ok, refl, subst, inl, inr, arith, IsPermutation, Bool}
use Rattle.std.proofs.lemmas.Bool.{cases_lt}
use Rattle.std.proofs.lemmas.Bool.Decides.{nat_tests}
use Rattle.std.proofs.lemmas.List.Sorted.{IsPermutation-refl, IsPermutation-sym, IsPermutation-trans, IsPermutation-cons, IsPermutation-middle, IsPermutation-map}
use Rattle.sqlite.specs.declared.types.Value.TheVariants.{Int}
use Rattle.sqlite.specs.State.{State, Executes}
use Rattle.sqlite_trees.proofs.ListLemmas.{filter-map}
use Rattle.sql_rows.specs.Keyed.{RisesFrom, AreRows}
use Rattle.sql_rows.proofs.Tests.{int_test, one_and, cast_int, cast_null}
use Rattle.sql_rows.proofs.Statements.{drops, adds}
use Rattle.x12_hub.specs.Stored.{HubStored, WaitingItem, AreRising}
use Rattle.x12_hub.specs.Plan.{put_waiting, take_waiting}
use Rattle.x12_tables.proofs.KeyLemmas.{is}
use Rattle.x12_hub_records.proofs.HubCompile.{take_text, take_is, put_terms, put_is, put_text}
use Rattle.x12_hub_records.proofs.TableLemmas.{mailbox_is_free, with_waiting}
use Rattle.x12_hub_records.specs.HubSchema.{mailbox, hub_schema}
use Rattle.x12_hub_records.specs.HubTables.{waiting_pair, waiting_row, HasHubTables}
use Rattle.sqlite.specs.Order.{Row}

pub rises_of : (n : ℕ) (ws : List WaitingItem) → AreRising n ws → RisesFrom n (map waiting_pair ws)
rises_of n [] h = tt
rises_of n (w ∷ ws) h = (h.0, rises_of w.item ws h.1)

below : (a b : ℕ) → a < b → (nat_lt a b ≡ true) × ((a == b) ≡ false) × (nat_lt b a ≡ false)
below a b h = (grind (arith, nat_tests), grind (arith, nat_tests), grind (arith, nat_tests))

above : (a b : ℕ) → b < a → (nat_lt a b ≡ false) × ((a == b) ≡ false) × (nat_lt b a ≡ true)
above a b h = (grind (arith, nat_tests), grind (arith, nat_tests), grind (arith, nat_tests))

level : (a b : ℕ) → a ≡ b → (nat_lt a b ≡ false) × ((a == b) ≡ true) × (nat_lt b a ≡ false)
level a b h = (grind (arith, nat_tests), grind (arith, nat_tests), grind (arith, nat_tests))

-- what has another number has a lower or a higher one
split : (item : ℕ) (ws : List WaitingItem) → IsPermutation (take_waiting item ws) (filter (λ w. nat_lt w.item item) ws ++ filter (λ w. nat_lt item w.item) ws)
split item [] = IsPermutation-refl []
split item (w ∷ ws) = elim (cases_lt w.item item) [
  | inl low ↦ (let b = below w.item item low in rw (b.0, b.1, b.2) (IsPermutation-cons w _ _ (split item ws)))
  | inr not_low ↦ elim (cases_lt item w.item) [
    | inl high ↦ (let b = above w.item item high in rw (b.0, b.1, b.2) (IsPermutation-trans _ _ _ (IsPermutation-cons w _ _ (split item ws))
        (IsPermutation-sym _ _ (IsPermutation-middle (filter (λ w. nat_lt w.item item) ws) w (filter (λ w. nat_lt item w.item) ws)))))
    | inr not_high ↦ (let b = level w.item item (omega (arith, not_low, not_high)) in rw (b.0, b.1, b.2) (split item ws))
  ]
]

-- an item that is put in, among those with other numbers
put_same : (node item : ℕ) (ws : List WaitingItem) → IsPermutation (record { node = node; item = item } ∷ take_waiting item ws) (put_waiting node item ws)
put_same node item ws =
    let new : WaitingItem = record { node = node; item = item } in
    let front = filter (λ w. nat_lt w.item item) ws in
    let back = filter (λ w. nat_lt item w.item) ws in
    IsPermutation-trans _ _ _ (IsPermutation-cons new _ _ (split item ws)) (IsPermutation-sym _ _ (IsPermutation-middle front new back))

pub takes : (old new : State) (item count last : ℕ) (s : HubStored) → HasHubTables last old.now s → Executes take_text (Int (pos item) ∷ []) old new (Ok count) → HasHubTables last new.now (record s { waiting = take_waiting item s.waiting })
takes old new item count last s has h =
    let params : Row = Int (pos item) ∷ [] in
    let is_item : ℕ × ℕ → Bool = λ x. x.0 == item in
    let did = drops take_text params old new hub_schema has.schema 2 (mailbox 4) refl mailbox_is_free take_is.1 (λ db. refl) waiting_row (map waiting_pair s.waiting) has.waiting
    (is 0 0 ∷ []) is_item (λ x. rw (int_test x.0 item) (one_and (x.0 == item))) take_is.0 count h in
    let kept : filter (λ x. not (is_item x)) (map waiting_pair s.waiting) ≡ map waiting_pair (take_waiting item s.waiting) = filter-map (λ x. not (is_item x)) waiting_pair s.waiting in
    with_waiting last s old new has did.1 (take_waiting item s.waiting) (subst (λ at. AreRows waiting_row at (new.now.trees 4)) kept did.0)

-- of what waits without the item, and then with it
pub puts : (old new : State) (node item count last : ℕ) (s : HubStored) (ws : List WaitingItem) → AreRising 0 (put_waiting node item ws) → HasHubTables last old.now (record s { waiting = take_waiting item ws })
    → Executes put_text (Int (pos item) ∷ Int (pos node) ∷ []) old new (Ok count) → HasHubTables last new.now (record s { waiting = put_waiting node item ws })
puts old new node item count last s ws rising has h =
    let params : Row = Int (pos item) ∷ Int (pos node) ∷ [] in
    let moved = IsPermutation-map waiting_pair _ _ (put_same node item ws) in
    let did = adds put_text params old new hub_schema has.schema 2 (mailbox 4) refl mailbox_is_free put_is.1 (λ db. refl) waiting_row (map waiting_pair (take_waiting item ws)) has.waiting
    put_terms 3 (item, node) (map waiting_pair (put_waiting node item ws)) refl refl (rw (cast_int item, cast_null, cast_int node) refl) put_is.0 count h moved (rises_of 0 (put_waiting node item ws) rising) in
    with_waiting last (record s { waiting = take_waiting item ws }) old new has did.1 (put_waiting node item ws) did.0
