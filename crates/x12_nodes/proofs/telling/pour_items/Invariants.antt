-- the packets so far, and those of what is left, are all; and what is left has room
use Rattle.std.proofs.Common.{◌≡◌, ◌≤◌, ◌+◌, ◌++◌, map, length, vec_len, vec_capacity}
use Rattle.std.specs.Vec.Iter.{into_iter_items, into_iter_len}
use Rattle.x12_hub.specs.Mailbox.{item_view}
use Rattle.x12_profile.specs.X12.{x12}
use Rattle.x12_core.specs.Effect.{items_to}
use Rattle.x12_core.specs.View.{packet_view}
use Rattle.x12_nodes.proofs.telling.pour_items.Given as goal

abbrev pub invariant-loop-item : goal.invariant-loop-item
invariant-loop-item l =
    (map packet_view l.packets.items
    ++ items_to x12 l.hub l.to (map item_view (into_iter_items l.item-iterator))
    ≡ map packet_view l.fn.packets.items
    ++ items_to x12 l.hub l.to (map item_view (into_iter_items l.initial.item-iterator)))
    × (into_iter_len l.item-iterator ≡ length (into_iter_items l.item-iterator))
    × (into_iter_len l.item-iterator + vec_len l.packets ≤ vec_capacity l.packets)
