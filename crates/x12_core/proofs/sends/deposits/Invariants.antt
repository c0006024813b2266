-- the packets so far, and those of what is left, are all
use Rattle.std.proofs.Common.{◌≡◌, ◌++◌, map, length}
use Rattle.std.specs.Vec.Iter.{into_iter_items, into_iter_len}
use Rattle.std.specs.Arc.{arc_slice_items}
use Rattle.x12_core.specs.Effect.{deposits}
use Rattle.x12_core.specs.View.{packet_view}
use Rattle.x12_core.proofs.sends.deposits.Given as goal

abbrev pub invariant-loop-bytes : goal.invariant-loop-bytes
invariant-loop-bytes l =
    (map packet_view l.packets.items
    ++ deposits l.fn.at (map arc_slice_items (into_iter_items l.bytes-iterator))
    ≡ deposits l.fn.at (map arc_slice_items (into_iter_items l.initial.bytes-iterator)))
    × (into_iter_len l.bytes-iterator ≡ length (into_iter_items l.bytes-iterator))
