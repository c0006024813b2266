-- What is said of an event that was taken: its number, and each packet that it sent, or that they
-- were lost for want of memory.
use Rattle.std.specs.Prelude.{ℕ, suc, List, [], Bool, map, drop, length, if◌then◌else◌}
use Rattle.x12_core.specs.Packet.{Kind, kind_of_load}
use Rattle.x12_profile.specs.Profile.{Profile}
use Rattle.x12_core.specs.Packet.{PacketName}
use Rattle.x12_world.specs.Packet.{SentPacket}
use Rattle.x12_world.specs.World.{World}
use Rattle.x12_world.specs.Run.{happens}
use Rattle.x12_world.specs.Loss.{Happening}

-- a packet as it is told of: its name, the node that gets it, and its kind
pub record ToldPacket : Type 0 where
  pub name : PacketName
  pub to : ℕ
  pub kind : Kind

-- what is told of a sent packet
abbrev pub told_packet : SentPacket → ToldPacket
told_packet q = record { name = q.name; to = q.packet.to; kind = kind_of_load q.packet.load }

-- the outcome of an event
pub record EventOutcome : Type 0 where
  pub event : ℕ
  pub packets : List ToldPacket
  pub lost : Bool

module _ (p : Profile) where
  -- the packets that an event sends, if it is taken: those behind all that were sent before
  abbrev pub sent_by : World → Happening → List SentPacket
  sent_by w h = drop (length w.packets) (happens p w h.event).packets

  -- the outcome of an event that is taken in this world
  abbrev pub outcome_of : World → Happening → EventOutcome
  outcome_of w h = record {
    event = suc w.events;
    packets = if h.lost then [] else map told_packet (sent_by w h);
    lost = h.lost;
  }
