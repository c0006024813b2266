-- The packets that were sent, by their names.
use Rattle.std.specs.Prelude.{ℕ, suc, List, [], ◌∷◌, ◌&&◌, ◌==◌, if◌then◌else◌, Option, Some, None}
use Rattle.x12_core.specs.Packet.{Packet, PacketName}

-- a packet with its name
pub record SentPacket : Type 0 where
  pub name : PacketName
  pub packet : Packet

-- the packets of an event, named from this place on
abbrev pub named : ℕ → ℕ → List Packet → List SentPacket
named event place [] = []
named event place (q ∷ qs) = record { name = record { event = event; place = place }; packet = q }
    ∷ named event (suc place) qs

-- the packet of this name, if it was ever sent
abbrev pub packet_of : List SentPacket → PacketName → Option Packet
packet_of [] n = None
packet_of (q ∷ qs) n = if (q.name.event == n.event) && (q.name.place == n.place) then Some q.packet
    else packet_of qs n
