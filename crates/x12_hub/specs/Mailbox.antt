-- What waits in a mailbox.
use Rattle.std.specs.Prelude.{◌≡◌, ℕ, List, Bool, ◌&&◌, ◌==◌, map, filter, Vec, filter_map, option_map}
use Rattle.std.specs.Global.{Global}
use Rattle.std.specs.List.{list_any}
use Rattle.std.specs.Ordering.{nat_cmp, ordering_then}
use Rattle.std.specs.BTreeSet.{BTreeSet, contains}
use Rattle.std.specs.BTreeMap.Range.{range_contains}
use Rattle.std.specs.declared.cmp.Ordering.{Ordering}
use Rattle.std.specs.declared.ops.Bound.TheVariants.{Included}
use Rattle.x12_profile.specs.Interchange.{Bytes}
use Rattle.x12_hub.specs.Hub.{Decision}
use Rattle.x12_hub.specs.Stored.{WaitingItem, bytes_at}

-- what waits in a node's mailbox, by rising item number
abbrev pub items_in_mailbox : ℕ → List WaitingItem → List ℕ
items_in_mailbox node waiting = map (λ w. w.item) (filter (λ w. w.node == node) waiting)

-- whether an item waits in a node's mailbox
abbrev pub is_waiting : List WaitingItem → ℕ → ℕ → Bool
is_waiting waiting node item = list_any (λ w. (w.node == node) && (w.item == item)) waiting

-- items with the bytes that were decided under their numbers
abbrev pub with_bytes : List Decision → List ℕ → List (ℕ × Bytes)
with_bytes ds items = filter_map (λ i. option_map (λ b. (i, b)) (bytes_at ds i)) items

-- an item as it is collected: its number and its bytes
abbrev pub item_view : ℕ × Vec ℕ Global → ℕ × Bytes
item_view e = (e.0, e.1.items)

-- the order of what waits in memory: by node, then by item
abbrev pub key_order : ℕ × ℕ → ℕ × ℕ → Ordering
key_order a b = ordering_then (nat_cmp a.0 b.0) (nat_cmp a.1 b.1)

-- whether what waits in memory is a node's, up to the last item
abbrev pub is_of_node : ℕ → ℕ → ℕ × ℕ → Bool
is_of_node node last k = range_contains key_order (Included (node, 0)) (Included (node, last)) k

-- a node's items in memory, up to the last one, in their order
abbrev pub items_in : BTreeSet (ℕ × ℕ) → ℕ → ℕ → List ℕ
items_in s node last = map (λ k. k.1) (filter (is_of_node node last) s.keys)

-- in memory waits what waits in the records
abbrev pub HoldsWaiting : BTreeSet (ℕ × ℕ) → List WaitingItem → Type 0
HoldsWaiting s waiting =
    (node item : ℕ) → contains key_order s (node, item) ≡ is_waiting waiting node item
