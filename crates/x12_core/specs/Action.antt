-- What a node does of itself, where its owner wants it: each action, once.
use Rattle.std.specs.Prelude.{ℕ, List, [], Bool, true, false, ◌&&◌, ◌==◌, not, Option, Some, None}
use Rattle.x12_core.specs.declared.packet.Site.{Site}
use Rattle.x12_core.specs.Effect.{Effect, from_station, quietly, at_station, at_hub, restart, collected}
use Rattle.x12_core.specs.Node.{Node, IsHub, IsStation, is_hub, is_station}
use Rattle.x12_envelopes.specs.declared.moment.Moment.{Moment}
use Rattle.x12_envelopes.specs.declared.party.Party.{Party}
use Rattle.x12_hub.specs.Hub.{enrolled, dismissed}
use Rattle.x12_judge.specs.Agreement.{TradingAgreement}
use Rattle.x12_profile.specs.Interchange.{Bytes, Order}
use Rattle.x12_profile.specs.Profile.{Profile}
use Rattle.x12_station.specs.declared.fault.StationFault.{StationFault}
use Rattle.x12_station.specs.Fault.{orders_fault, prepared_fault}
use Rattle.x12_station.specs.Station.{Station, agreed}
use Rattle.x12_station.specs.StationRefusal.{StationRefusal, orders_refusal, prepared_refusal}
use Rattle.x12_station.specs.StationStep.{submit, submit_orders, tick}

-- what a node does of itself; what writes carries its moment
pub data Action : Type 0 where
  -- a station submits orders, as one interchange
  Orders : Party → Moment → List Order → Action
  -- a station submits an interchange that was prepared elsewhere
  Prepared : Bytes → Action
  -- a station sends again what is due
  Tick : ℕ → Action
  -- a hub sends what waits in a node's mailbox
  Collect : (node : ℕ) → Action
  -- a station makes an agreement
  Agree : TradingAgreement → Action
  -- a party gets its mailbox at a hub for a node
  Enrol : Party → (node : ℕ) → Action
  -- a party's entry is taken out of a hub's directory
  Dismiss : Party → Action
  -- a node starts again
  Restart : Action

-- whether the node of this number, which is of this kind, acts so; no hub has a mailbox at itself
abbrev pub acts_so : ℕ → Action → Node → Bool
acts_so i (Orders to at orders) n = is_station (Some n)
acts_so i (Prepared x) n = is_station (Some n)
acts_so i (Tick now) n = is_station (Some n)
acts_so i (Collect j) n = is_hub (Some n) && not (i == j)
acts_so i (Agree a) n = is_station (Some n)
acts_so i (Enrol party j) n = is_hub (Some n) && not (i == j)
acts_so i (Dismiss party) n = is_hub (Some n)
acts_so i Restart n = true

-- the node whose mailbox it is about, if it is about one
abbrev pub node_served : Action → Option ℕ
node_served (Collect j) = Some j
node_served (Enrol party j) = Some j
node_served a = None

-- whether a station submits by it
abbrev pub submits : Action → Bool
submits (Orders to at orders) = true
submits (Prepared x) = true
submits a = false

-- what the table of a station says of it, with the numbers S1 to S12
abbrev pub row_of_action : Action → Station → Option StationFault
row_of_action (Orders to at orders) s = orders_fault s to at orders
row_of_action (Prepared x) s = prepared_fault s x
row_of_action a s = None

module _ (p : Profile) where
  -- the same in words
  abbrev pub action_refusal : Action → Station → Option StationRefusal
  action_refusal (Orders to at orders) s = orders_refusal p s to at orders
  action_refusal (Prepared x) s = prepared_refusal p s x
  action_refusal a s = None

  -- what the node of this site does
  abbrev pub acts : Site → Action → Node → Option Effect
  acts i (Orders to at orders) =
      at_station p (λ s. from_station i [] (submit_orders p s to at orders))
  acts i (Prepared x) = at_station p (λ s. from_station i [] (submit p s x))
  acts i (Tick now) = at_station p (λ s. from_station i [] (Some (tick p s now)))
  acts i (Collect j) = at_hub p (collected p i.node j)
  acts i (Agree a) =
      at_station p (λ s. quietly (IsStation (record s { agreements = agreed a s.agreements })))
  acts i (Enrol party j) = at_hub p (λ h. quietly (IsHub (enrolled h party j)))
  acts i (Dismiss party) = at_hub p (λ h. quietly (IsHub (dismissed h party)))
  acts i Restart = restart p
