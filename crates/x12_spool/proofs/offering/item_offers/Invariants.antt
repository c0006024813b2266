-- the offers so far, and those of what is left, are all
use Rattle.std.proofs.Common.{◌≡◌, ◌++◌, map, length}
use Rattle.std.specs.Vec.Iter.{into_iter_items, into_iter_len}
use Rattle.x12_hub.specs.Mailbox.{item_view}
use Rattle.x12_spool.specs.Node.{item_offer, offer_view}
use Rattle.x12_spool.proofs.offering.item_offers.Given as goal

abbrev pub invariant-loop-item : goal.invariant-loop-item
invariant-loop-item l =
    (map offer_view l.offers.items ++ map item_offer (map item_view (into_iter_items l.item-iterator))
    ≡ map item_offer (map item_view (into_iter_items l.initial.item-iterator)))
    × (into_iter_len l.item-iterator ≡ length (into_iter_items l.item-iterator))
