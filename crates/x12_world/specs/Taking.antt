-- What an event makes of a running network.
use Rattle.std.specs.Prelude.{◌≡◌, suc, List, ◌++◌, None}
use Rattle.x12_profile.specs.X12.{x12}
use Rattle.x12_core.specs.Packet.{Packet}
use Rattle.x12_world.specs.Packet.{named}
use Rattle.x12_world.specs.Nodes.{Nodes}
use Rattle.x12_world.specs.World.{World, Event}
use Rattle.x12_world.specs.Effect.{asked_by, after_asked}
use Rattle.x12_world.specs.EventRefusal.{event_refusal}

-- an event is taken: no row refuses it, it makes these nodes, and it sends these packets
pub record IsTaken (w : World) (e : Event) (nodes : Nodes) (sends : List Packet) : Type 0 where
  pub table : event_refusal x12 w e ≡ None
  pub after : after_asked x12 w (asked_by w.packets e) ≡ record {
    nodes = nodes;
    packets = w.packets ++ named (suc w.events) 1 sends;
    events = suc w.events;
  }
