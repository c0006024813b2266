-- the kinds so far, and those of what is left, are all; and what is left has room
use Rattle.std.proofs.Common.{◌≡◌, ◌≤◌, ◌+◌, ◌++◌, drop, map, length, vec_len, vec_capacity}
use Rattle.x12_core.specs.View.{packet_view}
use Rattle.x12_nodes.specs.Log.{told_of_packets}
use Rattle.x12_nodes.specs.View.{told_kind_view}
use Rattle.x12_nodes.proofs.telling.tell.Given as goal

abbrev pub invariant-loop-packet : goal.invariant-loop-packet
invariant-loop-packet l =
    (map told_kind_view l.told.items ++ told_of_packets (map packet_view (drop l.packet-index l.packets))
    ≡ map told_kind_view l.fn.told.items ++ told_of_packets (map packet_view l.packets))
    × (length (drop l.packet-index l.packets) + vec_len l.told ≤ vec_capacity l.told)
