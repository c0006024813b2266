-- What waits, once its rows are tested.
use Rattle.std.proofs.Common.{◌≡◌, ◌<◌, ◌+◌, ◌-◌, ◌∙◌, ℕ, zero, suc, List, [], ◌∷◌, map, length, drop, not, true, Option, Some, slice_get, refl, sym, ap, subst, arith, IsPermutation}
use Rattle.std.specs.List.{AllByRecursion}
use Rattle.std.proofs.lemmas.List.{length-drop}
use Rattle.sqlite.specs.declared.types.Value.TheVariants.{Null}
use Rattle.sqlite.specs.Order.{Row, column}
use Rattle.sqlite.specs.Tree.{Trees}
use Rattle.sqlite_schema.specs.Rules.{passes}
use Rattle.sqlite_schema.specs.declared.schema.Constraint.TheVariants.{Datatype, NotNull}
use Rattle.sqlite_sql.specs.Ops.{is_null}
use Rattle.sql_rows.specs.Keyed.{with_id, AreRows, by_key}
use Rattle.sql_rows.proofs.Sorted.{by_key_is}
use Rattle.x12_profile.specs.Interchange.{Bytes}
use Rattle.x12_hub.specs.Hub.{Decision, HubOutcome, Boxed, Refused}
use Rattle.x12_hub.specs.Stored.{WaitingItem, IsNumbered, HaveItemNumbers, AreRising, AllWaitRightly, WaitsRightly}
use Rattle.std.proofs.lemmas.Bool.{not-true}
use Rattle.x12_tables.proofs.AllRows.{all_moved}
use Rattle.x12_tables.proofs.StoredLemmas.{typed_short, three, reaches, and_left, null_is}
use Rattle.x12_hub_records.proofs.ContentLemmas.{waiting_back}
use Rattle.x12_hub_records.proofs.WaitingLemmas.{rises_of}
use Rattle.x12_hub_records.specs.HubAdopt.{IsBoxedSo, AreWaiting, boxed_for, HasWaiting}
use Rattle.x12_hub_records.specs.HubContent.{waiting_in}
use Rattle.x12_hub_records.specs.HubSchema.{hub_schema, mailbox}
use Rattle.x12_hub_records.specs.HubTables.{waiting_row, waiting_pair}

-- the table's rules on a row
abbrev pub IsStored : Row → Type 0
IsStored r = (passes Datatype hub_schema (λ _. []) (mailbox 4) r ≡ true) × (passes NotNull hub_schema (λ _. []) (mailbox 4) r ≡ true)

-- what is read of a row
abbrev pub show : Row → Row
show r = column r 0 ∷ column r 2 ∷ []

stored_is : (r : Row) → IsStored r → r ≡ column r 0 ∷ Null ∷ column r 2 ∷ []
stored_is r h =
    let low = typed_short (Some 0) 0 (mailbox 4).columns (drop 1 r) (and_left _ _ h.0) in
    let high = reaches r 2 (not-true (is_null (column r 2)) (and_left (not (is_null (column r 2))) true h.1)) in
    let long : length r ≡ 3 = omega (arith, low, high, length-drop 1 r) in
    let whole = three r long in
    let typed = subst (λ x. passes Datatype hub_schema (λ _. []) (mailbox 4) x ≡ true) whole h.0 in
    whole ∙ ap (λ v. column r 0 ∷ v ∷ column r 2 ∷ []) (null_is (column r 1) (and_left _ _ (and_left _ _ typed)))

record Waits (boxed : List (Option ℕ)) (last : ℕ) (rs : List Row) : Type 0 where
  ws : List WaitingItem
  rows_are : rs ≡ map (with_id waiting_row) (map waiting_pair ws)
  rising : AreRising last ws
  boxed_so : AllByRecursion (IsBoxedSo boxed) ws

all_wait : (boxed : List (Option ℕ)) (last : ℕ) (rs : List Row) → AllByRecursion IsStored rs → AreWaiting boxed last (map show rs) → Waits boxed last rs
all_wait boxed last [] stored are = record { ws = []; rows_are = refl; rising = tt; boxed_so = tt }
all_wait boxed last (r ∷ rs) stored are =
    let rest = all_wait boxed are.0 rs stored.1 are.2 in
    let it = are.1 in
    let w : WaitingItem = record { node = it.node; item = are.0 } in
    let row : r ≡ with_id waiting_row (waiting_pair w) = stored_is r stored.0 ∙ rw (it.item_is, it.node_is) refl in
    record {
      ws = w ∷ rest.ws;
      rows_are = ap (λ x. x ∷ rs) row ∙ ap (λ xs. with_id waiting_row (waiting_pair w) ∷ xs) rest.rows_are;
      rising = (it.above, rest.rising);
      boxed_so = ((omega (arith, it.above), it.boxed_so), rest.boxed_so);
    }

-- a decision that boxes for a node has its place as item number
found : (n : ℕ) (ds : List Decision) (k node : ℕ) → HaveItemNumbers n ds → slice_get (map boxed_for ds) k ≡ Some (Some node)
    → (b : Bytes) × (slice_get ds k ≡ Some (record { body = b; outcome = Boxed node (n + k) }))
found n [] k node numbered h = absurd cc
found n (d ∷ ds) zero node numbered h = first d.body d.outcome numbered.0 h
  where
    first : (b : Bytes) (o : HubOutcome) → IsNumbered n o → ◌≡◌ {A = Option (Option ℕ)} (Some (boxed_for (record { body = b; outcome = o }))) (Some (Some node))
        → (c : Bytes) × (◌≡◌ {A = Option Decision} (Some (record { body = b; outcome = o })) (Some (record { body = c; outcome = Boxed node (n + 0) })))
    first b (Boxed m i) is h = let same : m ≡ node = cc in let at : i ≡ n + 0 = omega (arith, is) in (b, rw (same, at) refl)
    first b (Refused reply) is h = absurd cc
found n (d ∷ ds) (suc k) node numbered h =
    let rest = found (n + 1) ds k node numbered.1 h in
    let same : n + 1 + k ≡ n + suc k = omega arith in
    (rest.0, rest.1 ∙ ap (λ i. Some (record { body = rest.0; outcome = Boxed node i })) same)

waits_so : (ds : List Decision) (item node : ℕ) → HaveItemNumbers 1 ds → 0 < item → slice_get (map boxed_for ds) (item - 1) ≡ Some (Some node) → WaitsRightly ds (record { node = node; item = item })
waits_so ds zero node numbered low h = absurd (omega (arith, low))
waits_so ds (suc k) node numbered low h =
    let place : suc k - 1 ≡ k = omega arith in
    let it = found 1 ds k node numbered (subst (λ p. slice_get (map boxed_for ds) p ≡ Some (Some node)) place h) in
    let same : 1 + k ≡ suc k = omega arith in
    (it.0, it.1 ∙ ap (λ i. Some (record { body = it.0; outcome = Boxed node i })) same)

pub all_wait_so : (ds : List Decision) (boxed : List (Option ℕ)) (ws : List WaitingItem) → HaveItemNumbers 1 ds → map boxed_for ds ≡ boxed → AllByRecursion (IsBoxedSo boxed) ws → AllWaitRightly ds ws
all_wait_so ds boxed [] numbered same h = tt
all_wait_so ds boxed (w ∷ ws) numbered same h = (
  waits_so ds w.item w.node numbered h.0.0 (subst (λ os. slice_get os (w.item - 1) ≡ Some (Some w.node)) (sym same) h.0.1),
  all_wait_so ds boxed ws numbered same h.1,
)

-- tested rows are those of what waits by the tables
pub has_waiting : (db : Trees) (boxed : List (Option ℕ)) (rows all : List Row) → AllByRecursion IsStored (db 4) → IsPermutation (db 4) all → rows ≡ map show all → AreWaiting boxed 0 rows
    → HasWaiting boxed db (map waiting_in (by_key (db 4)))
has_waiting db boxed rows all stored moved is are =
    let w = all_wait boxed 0 all (all_moved IsStored (db 4) all moved stored) (subst (AreWaiting boxed 0) is are) in
    let held : AreRows waiting_row (map waiting_pair w.ws) (db 4) = record { same = subst (IsPermutation (db 4)) w.rows_are moved; rise = rises_of 0 w.ws w.rising } in
    let back : map waiting_in (by_key (db 4)) ≡ w.ws = ap (map waiting_in) (by_key_is waiting_row (map waiting_pair w.ws) (db 4) held) ∙ waiting_back w.ws in
    subst (HasWaiting boxed db) (sym back) (record { rows = held; rising = w.rising; boxed_so = w.boxed_so })
