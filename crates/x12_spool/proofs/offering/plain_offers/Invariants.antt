-- the offers so far, and those of what is left, are all
use Rattle.std.proofs.Common.{◌≡◌, ◌++◌, map, length}
use Rattle.std.specs.Vec.Iter.{into_iter_items, into_iter_len}
use Rattle.std.specs.Arc.{arc_slice_items}
use Rattle.x12_spool.specs.Node.{offer_view, plain_offer}
use Rattle.x12_spool.proofs.offering.plain_offers.Given as goal

abbrev pub invariant-loop-bytes : goal.invariant-loop-bytes
invariant-loop-bytes l =
    (map offer_view l.offers.items ++ map plain_offer (map arc_slice_items (into_iter_items l.bytes-iterator))
    ≡ map plain_offer (map arc_slice_items (into_iter_items l.initial.bytes-iterator)))
    × (into_iter_len l.bytes-iterator ≡ length (into_iter_items l.bytes-iterator))
