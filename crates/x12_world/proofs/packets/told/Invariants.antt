-- what was told, and what is left to tell, is all
use Rattle.std.proofs.Common.{◌≡◌, ◌++◌, map, suc}
use Rattle.std.specs.Prelude.{drop}
use Rattle.x12_world.specs.Outcome.{told_packet}
use Rattle.x12_world.specs.Packet.{named}
use Rattle.x12_core.specs.View.{packet_view}
use Rattle.x12_world.specs.View.{told_view}
use Rattle.x12_world.proofs.packets.told.Given as goal

abbrev pub invariant-loop-packet : goal.invariant-loop-packet
invariant-loop-packet l =
    map told_view l.told.items
    ++ map told_packet (named l.fn.event (suc l.place) (map packet_view (drop l.packet-index l.packets)))
    ≡ map told_packet (named l.fn.event 1 (map packet_view l.packets))
