-- Why the network refuses an event, in this order: no number is left for it (V7), its node isn't
-- there or isn't of its kind (V4), its packet was never sent (V1), its bytes come from outside and
-- name a node as their sender (V2), or its node refuses it (V3). Want of memory (V5) comes before
-- V3; no definition speaks of memory.
use Rattle.std.specs.Prelude.{suc, ◌-◌, ◌^◌, [], ◌∷◌, ℕ, Bool, true, false, ◌&&◌, not, nat_le}
use Rattle.std.specs.Prelude.{Option, Some, None, is_none, option_and_then}
use Rattle.x12_core.specs.Ask.{Ask, node_meant, refusal_of_ask, suits}
use Rattle.x12_core.specs.Node.{Node}
use Rattle.x12_core.specs.NodeRefusal.{NodeRefusal}
use Rattle.x12_envelopes.specs.Row.{first_of_rows}
use Rattle.x12_profile.specs.Profile.{Profile}
use Rattle.x12_world.specs.Effect.{Asked, asked_by}
use Rattle.x12_world.specs.Nodes.{node_at}
use Rattle.x12_world.specs.World.{World, Event, At, Deliver, Outside, is_named, is_node_at}

-- what the network says where it refuses
pub data EventRefusal : Type 0 where
  -- V7: the next event would have the greatest number
  NoEventLeft : EventRefusal
  -- V4: no node of this number, or one of the other kind
  NoSuchNode : EventRefusal
  -- V1: no packet of this name was ever sent
  NoSuchPacket : EventRefusal
  -- V2: bytes from outside that name a node as their sender
  SpokenFor : EventRefusal
  -- V3: the node's own refusal
  NodeRefuses : NodeRefusal → EventRefusal

-- whether the next event would have the greatest number of 64 bits
abbrev pub is_at_end : World → Bool
is_at_end w = nat_le (2 ^ 64 - 1) (suc w.events)

-- whether a node is there, and of the kind that is asked so
abbrev pub may_be_asked : ℕ → Ask → Option Node → Bool
may_be_asked i a None = false
may_be_asked i a (Some n) = suits i a n

-- whether the node whose mailbox is meant is there, if one is
abbrev pub is_there : World → Option ℕ → Bool
is_there w None = true
is_there w (Some j) = is_node_at w j

-- whether the nodes that an event names are there, and of its kind; nobody is asked where there is no
-- packet
abbrev pub has_nodes : World → Option Asked → Bool
has_nodes w None = true
has_nodes w (Some a) =
    may_be_asked a.node a.ask (node_at w.nodes a.node) && is_there w (node_meant a.ask)

-- the rows first, and then the node's own refusal
abbrev pub or_of_node : Option EventRefusal → Option NodeRefusal → Option EventRefusal
or_of_node (Some r) own = Some r
or_of_node None None = None
or_of_node None (Some r) = Some (NodeRefuses r)

module _ (p : Profile) where
  -- whether an event brings bytes from outside that name a node as their sender
  abbrev pub is_spoken_for : World → Event → Bool
  is_spoken_for w (Outside i b at) = p.has_header b && is_named p w b
  is_spoken_for w (At i a) = false
  is_spoken_for w (Deliver name at) = false

  -- what the node that is asked says
  abbrev pub node_refusal : World → Option Asked → Option NodeRefusal
  node_refusal w None = None
  node_refusal w (Some a) = option_and_then (refusal_of_ask p a.ask) (node_at w.nodes a.node)

  -- the network's own table: the first row that holds
  abbrev pub network_refusal : World → Event → Option EventRefusal
  network_refusal w e = first_of_rows (
      (is_at_end w, NoEventLeft)
      ∷ (not (has_nodes w (asked_by w.packets e)), NoSuchNode)
      ∷ (is_none (asked_by w.packets e), NoSuchPacket)
      ∷ (is_spoken_for w e, SpokenFor)
      ∷ [])

  -- the whole table: the network's own, and then the node's
  abbrev pub event_refusal : World → Event → Option EventRefusal
  event_refusal w e =
      or_of_node (network_refusal w e) (node_refusal w (asked_by w.packets e))
