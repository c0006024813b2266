-- The world's machinery: what each event asks of which node, and what becomes of the world then. What
-- a node does where it is asked is x12_core's.
use Rattle.std.specs.Prelude.{ℕ, suc, List, ◌++◌, Option, Some, None, option_map}
use Rattle.x12_core.specs.Ask.{Ask, Comes, Do, does_at}
use Rattle.x12_core.specs.Ask as ask
use Rattle.x12_core.specs.declared.packet.Site.{Site}
use Rattle.x12_core.specs.Effect.{Effect}
use Rattle.x12_core.specs.Node.{Node}
use Rattle.x12_core.specs.Packet.{Packet, PacketName}
use Rattle.x12_envelopes.specs.declared.moment.Moment.{Moment}
use Rattle.x12_profile.specs.Profile.{Profile}
use Rattle.x12_world.specs.Nodes.{node_at, with_node, site_of}
use Rattle.x12_world.specs.Packet.{SentPacket, named, packet_of}
use Rattle.x12_world.specs.World.{World, Event, At, Deliver, Outside}

-- a node is asked so
pub record Asked : Type 0 where
  pub node : ℕ
  pub ask : Ask

-- the node that a packet goes to is asked to take it
abbrev pub asked_to_take : PacketName → Moment → Packet → Asked
asked_to_take name at q = record { node = q.to; ask = Comes name q.from q.load at }

-- which node an event asks, and how, where these packets were sent; a delivery of none asks nobody
abbrev pub asked_by : List SentPacket → Event → Option Asked
asked_by packets (At i a) = Some (record { node = i; ask = Do a })
asked_by packets (Deliver name at) = option_map (asked_to_take name at) (packet_of packets name)
asked_by packets (Outside i b at) = Some (record { node = i; ask = ask.Outside b at })

module _ (p : Profile) where
  -- the world once a node had its effect
  abbrev pub after_effect : World → ℕ → Option Effect → World
  after_effect w i None = w
  after_effect w i (Some e) = record {
    nodes = with_node w.nodes i e.node;
    packets = w.packets ++ named (suc w.events) 1 e.sends;
    events = suc w.events;
  }

  -- what the node of this site does where it is there
  abbrev pub effect_at : Site → Ask → Option Node → Option Effect
  effect_at i a None = None
  effect_at i a (Some n) = does_at p i a n

  -- the world once a node was asked
  abbrev pub after_asked : World → Option Asked → World
  after_asked w None = w
  after_asked w (Some a) = after_effect w a.node
      (effect_at (site_of w.nodes a.node) a.ask (node_at w.nodes a.node))
