-- What is found in a log by a stamp, or by the name of a packet.
use Rattle.std.specs.Prelude.{ℕ, zero, suc, List, Option, None, ◌==◌, find, option_and_then, slice_get}
use Rattle.x12_core.specs.Packet.{Packet, PacketName}
use Rattle.x12_nodes.specs.Log.{LogEntry}

-- the entry with this stamp, if there is one
abbrev pub entry_at : List LogEntry → ℕ → Option LogEntry
entry_at log stamp = find (λ (e : LogEntry). e.stamp == stamp) log

-- the packet at this place, from 1
abbrev pub packet_at_place : ℕ → List Packet → Option Packet
packet_at_place zero packets = None
packet_at_place (suc index) packets = slice_get packets index

-- the packet of this name that a node sent, if it did: that at its place of what was sent under the
-- stamp
abbrev pub packet_sent : List LogEntry → PacketName → Option Packet
packet_sent log name =
    option_and_then (λ (e : LogEntry). packet_at_place name.place e.packets) (entry_at log name.event)
