-- What a node is asked, and what it does then.
use Rattle.std.specs.Prelude.{ℕ, Bool, true, Option, Some, None, option_and_then, option_map, is_some}
use Rattle.x12_acks.specs.Submission.{TransactionSetKey}
use Rattle.x12_core.specs.Action.{Action, acts, acts_so, node_served, row_of_action, action_refusal}
use Rattle.x12_core.specs.declared.packet.Site.{Site}
use Rattle.x12_core.specs.Effect.{Effect, comes, comes_outside}
use Rattle.x12_core.specs.Node.{Node, IsHub, IsStation, is_hub, is_station}
use Rattle.x12_core.specs.NodeRefusal.{NodeRefusal, OfStation, OfHub}
use Rattle.x12_core.specs.Packet.{Load, Deposit, Item, Refusal, Taken, PacketName, carried}
use Rattle.x12_envelopes.specs.declared.moment.Moment.{Moment}
use Rattle.x12_hub.specs.HubRefusal.{deposit_refusal}
use Rattle.x12_outbound.specs.declared.fate.Fate.{Fate as SetFate}
use Rattle.x12_profile.specs.Interchange.{Bytes}
use Rattle.x12_profile.specs.Profile.{Profile}
use Rattle.x12_station.specs.declared.fault.StationFault.{StationFault}
use Rattle.x12_station.specs.Fault.{arrival_fault}
use Rattle.x12_station.specs.Station.{Station}
use Rattle.x12_station.specs.StationRefusal.{arrival_refusal}
use Rattle.x12_station.specs.StationStep.{fate_by_key}

-- what a node is asked; what writes carries its moment
pub data Ask : Type 0 where
  -- to act of itself
  Do : Action → Ask
  -- to take a packet that comes: its name, the node that sent it, and what it carries
  Comes : PacketName → (from : ℕ) → Load → Moment → Ask
  -- to take bytes that come from outside the network
  Outside : Bytes → Moment → Ask
  -- to tell how a transaction set fares: nothing happens
  Fate : TransactionSetKey → Ask

-- whether a node is of the kind that takes such a load: deposits and reports go to hubs
abbrev pub is_for : Load → Option Node → Bool
is_for (Deposit b) n = is_hub n
is_for (Taken item) n = is_hub n
is_for (Item item b) n = is_some n
is_for (Refusal b) n = is_some n

-- whether the node of this number, which is of this kind, is asked so
abbrev pub suits : ℕ → Ask → Node → Bool
suits i (Do a) n = acts_so i a n
suits i (Comes name from load at) n = is_for load (Some n)
suits i (Outside b at) n = true
suits i (Fate k) n = is_station (Some n)

-- the node whose mailbox a hub is asked about, if it is asked about one
abbrev pub node_meant : Ask → Option ℕ
node_meant (Do a) = node_served a
node_meant ask = None

-- the bytes that come with it, if some do
abbrev pub bytes_of_ask : Ask → Option Bytes
bytes_of_ask (Comes name from load at) = carried load
bytes_of_ask (Outside b at) = Some b
bytes_of_ask ask = None

-- what the table of a station says of it, with the numbers S1 to S12
abbrev pub row_of_ask : Ask → Station → Option StationFault
row_of_ask (Do a) s = row_of_action a s
row_of_ask ask s = option_and_then (arrival_fault s) (bytes_of_ask ask)

module _ (p : Profile) where
  -- what a node says of bytes that come to it
  abbrev pub bytes_refusal : Bytes → Node → Option NodeRefusal
  bytes_refusal b (IsStation s) = option_map OfStation (arrival_refusal p s b)
  bytes_refusal b (IsHub h) = option_map OfHub (deposit_refusal p h b)

  -- what a node says of an action
  abbrev pub own_refusal : Action → Node → Option NodeRefusal
  own_refusal a (IsStation s) = option_map OfStation (action_refusal p a s)
  own_refusal a (IsHub h) = None

  -- what a node says where it is asked so
  abbrev pub refusal_of_ask : Ask → Node → Option NodeRefusal
  refusal_of_ask (Do a) n = own_refusal a n
  refusal_of_ask ask n = option_and_then (λ b. bytes_refusal b n) (bytes_of_ask ask)

  -- what the node of this site does; that a fate is told is no event
  abbrev pub does_at : Site → Ask → Node → Option Effect
  does_at i (Do a) = acts p i a
  does_at i (Comes name from load at) = comes p i from load at
  does_at i (Outside b at) = comes_outside p i b at
  does_at i (Fate k) = λ n. None

  -- the fate that a node tells where it is asked for one
  abbrev pub fate_told : Ask → Node → Option (Option SetFate)
  fate_told (Fate k) (IsStation s) = Some (fate_by_key p s k)
  fate_told ask n = None
