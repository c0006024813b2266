-- the copies so far, and what is left, are all
use Rattle.std.proofs.Common.{◌≡◌, ◌++◌, drop, map}
use Rattle.x12_core.specs.View.{packet_view}
use Rattle.x12_nodes.proofs.copying.copied_packets.Given as goal

abbrev pub invariant-loop-packet : goal.invariant-loop-packet
invariant-loop-packet l =
    map packet_view l.copies.items ++ map packet_view (drop l.packet-index l.packets) ≡ map packet_view l.packets
