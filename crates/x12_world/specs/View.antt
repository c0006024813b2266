-- What the code's packets and outcomes stand for.
use Rattle.std.specs.Prelude.{ℕ, suc, List, [], ◌∷◌, ◌++◌, map, Vec}
use Rattle.std.specs.Global.{Global}
use Rattle.x12_core.specs.View.{name_view, packet_view, kind_view}
use Rattle.x12_core.specs.declared.packet.Packet.{Packet as CodePacket}
use Rattle.x12_world.specs.declared.outcome.ToldPacket.{ToldPacket as CodeTold}
use Rattle.x12_core.specs.Packet.{Packet}
use Rattle.x12_world.specs.Packet.{SentPacket, named}
use Rattle.x12_world.specs.Outcome.{ToldPacket}

abbrev pub told_view : CodeTold → ToldPacket
told_view q = record { name = name_view q.name; to = q.to; kind = kind_view q.kind }

-- the packets of each event from this one on, by their names
abbrev pub named_from : ℕ → List (List Packet) → List SentPacket
named_from event [] = []
named_from event (qs ∷ rest) = named event 1 qs ++ named_from (suc event) rest

-- the packets of one event
abbrev pub packets_view : Vec CodePacket Global → List Packet
packets_view v = map packet_view v.items

-- the packets of each event, from the first one on
abbrev pub held_view : List (Vec CodePacket Global) → List SentPacket
held_view vs = named_from 1 (map packets_view vs)
