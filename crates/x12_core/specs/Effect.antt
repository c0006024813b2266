-- What a node becomes and sends, and where its packets go. Nothing is decided here: stations and hubs
-- take the steps.
use Rattle.std.specs.Prelude.{ℕ, List, [], ◌∷◌, ◌++◌, map, Option, Some, None}
use Rattle.x12_core.specs.declared.packet.Site.{Site}
use Rattle.x12_core.specs.Node.{Node, IsHub, IsStation}
use Rattle.x12_core.specs.Packet.{Load, Deposit, Item, Refusal, Taken, Packet}
use Rattle.x12_envelopes.specs.declared.moment.Moment.{Moment}
use Rattle.x12_hub.specs.Hub.{Hub, HubStep, HubOutcome, Boxed, Refused, deposit, collect, taken}
use Rattle.x12_profile.specs.Interchange.{Bytes}
use Rattle.x12_profile.specs.Profile.{Profile}
use Rattle.x12_station.specs.Station.{Station}
use Rattle.x12_station.specs.StationStep.{StationStep, arrive, restarted}

-- a node after an event, and what it sends
pub record Effect : Type 0 where
  pub node : Node
  pub sends : List Packet

-- a node changes, and sends nothing
abbrev pub quietly : Node → Option Effect
quietly n = Some (record { node = n; sends = [] })

-- an item is reported as taken to the hub that sent it
abbrev pub reports_taken : (from to : ℕ) → ℕ → Packet
reports_taken from to item = record { from = from; to = to; load = Taken item }

-- a station's interchanges go to its hub
abbrev pub deposits : Site → List Bytes → List Packet
deposits at bs = map (λ b. record { from = at.node; to = at.hub; load = Deposit b }) bs

-- a station sends these packets first, and then its interchanges to its hub
abbrev pub from_station : Site → List Packet → Option StationStep → Option Effect
from_station at first None = None
from_station at first (Some step) = Some (record {
  node = IsStation step.station;
  sends = first ++ deposits at step.sends;
})

-- a hub's refusal goes to the node that sent the deposit, if one waits for it
abbrev pub refusals : (hub : ℕ) → Option ℕ → HubOutcome → List Packet
refusals hub (Some to) (Refused reply) = record { from = hub; to = to; load = Refusal reply } ∷ []
refusals hub (Some to) (Boxed node item) = []
refusals hub None outcome = []

-- a hub after a deposit: it sends these packets first, and then its refusal
abbrev pub from_hub : (hub : ℕ) → List Packet → Option ℕ → Option HubStep → Option Effect
from_hub hub first to None = None
from_hub hub first to (Some step) = Some (record {
  node = IsHub step.hub;
  sends = first ++ refusals hub to step.outcome;
})

module _ (p : Profile) where
  -- a load comes from a node to a station: it reports an item as taken, and then answers it
  abbrev pub comes_to_station : Site → (from : ℕ) → Moment → Station → Load → Option Effect
  comes_to_station i from at s (Item item b) =
      from_station i (reports_taken i.node from item ∷ []) (arrive p s at b)
  comes_to_station i from at s (Refusal b) = from_station i [] (arrive p s at b)
  comes_to_station i from at s (Deposit b) = None
  comes_to_station i from at s (Taken item) = None

  -- a load comes from a node to the hub of this number: it reports an item as taken, and then decides
  -- it as a deposit; nobody waits to hear of the other hub's refusal
  abbrev pub comes_to_hub : ℕ → (from : ℕ) → Moment → Hub → Load → Option Effect
  comes_to_hub i from at h (Deposit b) = from_hub i [] (Some from) (deposit p h at b)
  comes_to_hub i from at h (Item item b) =
      from_hub i (reports_taken i from item ∷ []) (Some from) (deposit p h at b)
  comes_to_hub i from at h (Refusal b) = from_hub i [] None (deposit p h at b)
  comes_to_hub i from at h (Taken item) = quietly (IsHub (taken h from item))

  -- a load comes from a node to another
  abbrev pub comes : Site → (from : ℕ) → Load → Moment → Node → Option Effect
  comes i from load at (IsStation s) = comes_to_station i from at s load
  comes i from load at (IsHub h) = comes_to_hub i.node from at h load

  -- bytes from outside come to a node
  abbrev pub comes_outside : Site → Bytes → Moment → Node → Option Effect
  comes_outside i b at (IsStation s) = from_station i [] (arrive p s at b)
  comes_outside i b at (IsHub h) = from_hub i.node [] None (deposit p h at b)

  -- what a station does of itself
  abbrev pub at_station : (Station → Option Effect) → Node → Option Effect
  at_station act (IsStation s) = act s
  at_station act (IsHub h) = None

  -- what a hub does of itself
  abbrev pub at_hub : (Hub → Option Effect) → Node → Option Effect
  at_hub act (IsHub h) = act h
  at_hub act (IsStation s) = None

  -- a node is restarted
  abbrev pub restart : Node → Option Effect
  restart (IsStation s) = quietly (IsStation (restarted p s))
  restart (IsHub h) = quietly (IsHub h)

  -- items of a hub, as packets to the node of their mailbox
  abbrev pub items_to : (hub node : ℕ) → List (ℕ × Bytes) → List Packet
  items_to hub node items = map (λ c. record { from = hub; to = node; load = Item c.0 c.1 }) items

  -- the hub of this number sends what waits in a node's mailbox
  abbrev pub collected : (hub node : ℕ) → Hub → Option Effect
  collected hub node h =
      Some (record { node = IsHub h; sends = items_to hub node (collect h node) })
