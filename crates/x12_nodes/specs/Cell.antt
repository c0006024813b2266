-- A node's cell: what the node was when it was opened, its log, and what it is now.
use Rattle.std.specs.Prelude.{◌≡◌, ◌-◌, ◌^◌, ℕ, List, [], ◌∷◌, ◌++◌, Bool, true, false, ◌&&◌, nat_lt, IsTrue, ◌⊎◌, option_to_list}
use Rattle.x12_core.specs.Ask.{Ask, suits}
use Rattle.x12_core.specs.Core.{IsCoreRefusal}
use Rattle.x12_core.specs.Fault.{NodeWasCounted}
use Rattle.x12_core.specs.declared.packet.Site.{Site}
use Rattle.x12_core.specs.declared.node_core.Core.{Core}
use Rattle.x12_core.specs.declared.node_core.Core.TheVariants as core
use Rattle.x12_core.specs.declared.fault.CoreFault.{CoreFault}
use Rattle.x12_core.specs.declared.fault.CoreFault.TheVariants as code
use Rattle.x12_core.specs.Node.{Node, IsHub, IsStation}
use Rattle.x12_core.specs.Packet.{Packet}
use Rattle.x12_hub.specs.Hub.{new_hub}
use Rattle.x12_nodes.specs.declared.opening.Opening.{Opening}
use Rattle.x12_nodes.specs.declared.opening.Opening.TheVariants as opened
use Rattle.x12_nodes.specs.declared.fault.CellFault.{CellFault}
use Rattle.x12_nodes.specs.declared.fault.CellFault.TheVariants as cell
use Rattle.x12_nodes.specs.Log.{LogEntry, IsStepOf, Replays, StampsRise, last_stamp}
use Rattle.x12_nodes.specs.View.{Receipt, receipt_of}
use Rattle.x12_station.specs.Station.{new_station}

-- what a node was when its cell was made: one with empty records
abbrev pub opening_node : Opening → Node
opening_node (opened.Hub me) = IsHub (new_hub me)
opening_node (opened.Station me hub other) =
    IsStation (new_station me (hub ∷ option_to_list other))

-- what is said of the node holds while the records of its core answer
pub record CellView : Type 0 where
  pub site : Site
  pub opening : Opening
  pub log : List LogEntry
  -- the last stamp, 0 where there is none
  pub last : ℕ
  pub now : Node
  pub answers : Bool
  -- how often the records of its core failed
  pub failures : ℕ

-- a core that was asked to do nothing yet
abbrev pub IsNewCore : {R H : Type 0} → Core R H → Type 0
IsNewCore (core.Hub h) = h.hub ≡ new_hub h.hub.me
IsNewCore (core.Station s) = s.state ≡ new_station s.state.me s.state.hubs

-- the node is what its log made of what it was, and stamps rise
pub record IsReplayed (c : CellView) : Type 0 where
  pub replays : IsTrue c.answers → Replays c.site (opening_node c.opening) c.log c.now
  pub rises : StampsRise 0 c.log
  pub last : c.last ≡ last_stamp 0 c.log

-- a stamp that may follow this one: above it, and not the greatest of 64 bits
abbrev pub stamp_may_follow : ℕ → ℕ → Bool
stamp_may_follow last stamp = nat_lt last stamp && nat_lt stamp (2 ^ 64 - 1)

-- a cell took a call: its log has one entry more, which made the node what it is; the receipt is of
-- this entry, and the copies are its packets, or none where memory for them was missing
pub record TakesCall (old : CellView) (stamp : ℕ) (ask : Ask) (r : Receipt)
    (copies : List Packet) (new : CellView) : Type 0 where
  pub entry : LogEntry
  pub stamp_is : entry.stamp ≡ stamp
  pub ask_is : entry.ask ≡ ask
  pub step : IsStepOf old.site entry old.now new.now
  pub log : new.log ≡ old.log ++ entry ∷ []
  pub receipt : r ≡ receipt_of old.site.node entry
  pub sent : (copies ≡ entry.packets) ⊎ (copies ≡ [])

-- a cell that refused is as it was: its log in any case, its node while its records answer
pub record StaysSo (old new : CellView) : Type 0 where
  pub log : new.log ≡ old.log
  pub last : new.last ≡ old.last
  pub now : IsTrue new.answers → new.now ≡ old.now

-- what a cell says of a core's refusal
abbrev pub fault_of_core : CoreFault → CellFault
fault_of_core code.WrongKind = cell.WrongKind
fault_of_core code.Memory = cell.Memory
fault_of_core (code.Node fault) = cell.Core fault

-- where a cell says that its core's records failed, this count of their failures rose
abbrev pub CellWasCounted : CellFault → (old new : ℕ) → Type 0
CellWasCounted (cell.Core fault) old new = NodeWasCounted fault old new
CellWasCounted cell.WrongKind old new = Unit {0}
CellWasCounted cell.Memory old new = Unit {0}
CellWasCounted cell.WentBack old new = Unit {0}

-- a cell refuses so: nodes of its kind aren't asked so, memory was missing, its stamp doesn't follow
-- the last one, or the core refuses
abbrev pub IsCellRefusal : CellView → ℕ → Ask → CellFault → Type 0
IsCellRefusal c stamp ask cell.WrongKind = suits c.site.node ask c.now ≡ false
IsCellRefusal c stamp ask cell.Memory = suits c.site.node ask c.now ≡ true
IsCellRefusal c stamp ask cell.WentBack =
    (suits c.site.node ask c.now ≡ true) × (stamp_may_follow c.last stamp ≡ false)
IsCellRefusal c stamp ask (cell.Core fault) =
    (stamp_may_follow c.last stamp ≡ true) × IsCoreRefusal c.site.node ask c.now (code.Node fault)

-- before the core is asked, a cell refuses so: nodes of its kind aren't asked so, which this tells, or
-- memory was missing
abbrev pub IsUnready : Bool → CellFault → Type 0
IsUnready fits cell.WrongKind = fits ≡ false
IsUnready fits cell.Memory = fits ≡ true
IsUnready fits cell.WentBack = ⊥
IsUnready fits (cell.Core fault) = ⊥

-- a step of the core of the node of this number is refused so: the stamp doesn't follow the last one,
-- which this tells, or the core refuses
abbrev pub IsStepRefusal : ℕ → Bool → Ask → Node → CellFault → Type 0
IsStepRefusal node follows ask n cell.WrongKind = suits node ask n ≡ false
IsStepRefusal node follows ask n cell.Memory = suits node ask n ≡ true
IsStepRefusal node follows ask n cell.WentBack = follows ≡ false
IsStepRefusal node follows ask n (cell.Core fault) =
    (follows ≡ true) × IsCoreRefusal node ask n (code.Node fault)
