-- Packets for which memory was missing are lost: nobody holds them, so nobody can deliver them.
use Rattle.std.specs.Prelude.{◌≡◌, ◌≤◌, List, [], ◌∷◌, ◌++◌, Bool, if◌then◌else◌, Some, Contains}
use Rattle.x12_profile.specs.Profile.{Profile}
use Rattle.x12_core.specs.Packet.{Packet, PacketName}
use Rattle.x12_world.specs.Packet.{SentPacket, packet_of}
use Rattle.x12_world.specs.World.{World, Event}
use Rattle.x12_world.specs.Network.{Network, IsNetwork}
use Rattle.x12_world.specs.Run.{happens, run, new_world}
use Rattle.x12_world.specs.Headline.{Headline}

-- an event, and whether the packets that it sent were lost
pub record Happening : Type 0 where
  pub event : Event
  pub lost : Bool

-- a world that holds none of the packets which its last event sent
abbrev pub after_loss : Bool → World → World → World
after_loss lost old new = if lost then record new { packets = old.packets } else new

module _ (p : Profile) where
  -- the world after an event whose packets were perhaps lost
  abbrev pub happens_so : World → Happening → World
  happens_so w h = after_loss h.lost w (happens p w h.event)

  -- the world after a list of these
  abbrev pub run_so : List Happening → World → World
  run_so [] w = w
  run_so (h ∷ hs) w = run_so hs (happens_so w h)

-- a world that lost packets, beside the one that lost none: the nodes are the same, and each packet
-- that is held is one that was sent
pub record Shadows (full held : World) : Type 0 where
  pub nodes : full.nodes ≡ held.nodes
  pub events : full.events ≡ held.events
  pub packets : (n : PacketName) (q : Packet) → packet_of held.packets n ≡ Some q
      → packet_of full.packets n ≡ Some q
  pub sent : (q : SentPacket) → Contains held.packets q → Contains full.packets q
  pub named : (q : SentPacket) → Contains full.packets q → q.name.event ≤ full.events

-- each run with losses is beside a run without
abbrev pub EveryRunShadows : Profile → Type 0
EveryRunShadows p = (full held : World) (hs : List Happening) → Shadows full held
    → (events : List Event) × Shadows (run p events full) (run_so p hs held)

-- the headline of the worlds after each list of happenings and after each longer list
abbrev pub HeadlineWithLosses : Profile → Type 0
HeadlineWithLosses p = (net : Network) → IsNetwork p net → (before after : List Happening)
    → Headline p (run_so p before (new_world net)) (run_so p (before ++ after) (new_world net))
