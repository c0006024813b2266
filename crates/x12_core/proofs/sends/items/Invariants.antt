-- the packets so far, and those of what is left, are all
use Rattle.std.proofs.Common.{◌≡◌, ◌++◌, map, length}
use Rattle.std.specs.Vec.Iter.{into_iter_items, into_iter_len}
use Rattle.x12_hub.specs.Mailbox.{item_view}
use Rattle.x12_profile.specs.X12.{x12}
use Rattle.x12_core.specs.Effect.{items_to}
use Rattle.x12_core.specs.View.{packet_view}
use Rattle.x12_core.proofs.sends.items.Given as goal

abbrev pub invariant-loop-item : goal.invariant-loop-item
invariant-loop-item l =
    (map packet_view l.packets.items
    ++ items_to x12 l.fn.hub l.fn.to (map item_view (into_iter_items l.item-iterator))
    ≡ items_to x12 l.fn.hub l.fn.to (map item_view (into_iter_items l.initial.item-iterator)))
    × (into_iter_len l.item-iterator ≡ length (into_iter_items l.item-iterator))
