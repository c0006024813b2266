-- Why a node refuses what it is asked, with the numbers of its own table: of want of memory and of
-- records that fail no table tells. And which faults say that its records failed: those are counted.
use Rattle.std.specs.Prelude.{◌≡◌, ℕ, Option, Some, None, Err, Result, OnOk, IfErr}
use Rattle.x12_hub.specs.declared.fault.HubFault.TheVariants as hub
use Rattle.x12_numbers.specs.Count.{CountRose}
use Rattle.x12_station.specs.declared.fault.StationFault.TheVariants as station
use Rattle.x12_core.specs.declared.fault.CoreFault.{CoreFault}
use Rattle.x12_core.specs.declared.fault.CoreFault.TheVariants as code
use Rattle.x12_core.specs.declared.fault.NodeFault.{NodeFault}
use Rattle.x12_core.specs.declared.fault.NodeFault.TheVariants.{OfStation, OfHub}
use Rattle.x12_core.specs.Ask.{Ask, bytes_of_ask, row_of_ask}
use Rattle.x12_core.specs.Node.{Node, IsHub, IsStation}
use Rattle.x12_envelopes.specs.Header.{header_of}
use Rattle.x12_hub.specs.declared.fault.HubFault.{HubFault}
use Rattle.x12_hub.specs.Hub.{Hub}
use Rattle.x12_hub.specs.HubRefusal.{deposit_refusal, Exhausted}
use Rattle.x12_profile.specs.Interchange.{Bytes}
use Rattle.x12_profile.specs.X12.{x12}
use Rattle.x12_station.specs.Fault.{IsRowOrWant}

-- a hub says so of bytes that come to it
abbrev pub IsHubFault : Hub → Option Bytes → HubFault → Type 0
IsHubFault h (Some b) (hub.Unreadable fault) = header_of b ≡ Err fault
IsHubFault h (Some b) hub.Exhausted = deposit_refusal x12 h b ≡ Some Exhausted
IsHubFault h (Some b) hub.Store = Unit {0}
IsHubFault h (Some b) hub.Memory = Unit {0}
IsHubFault h None (hub.Unreadable fault) = ⊥
IsHubFault h None hub.Exhausted = ⊥
IsHubFault h None hub.Store = Unit {0}
IsHubFault h None hub.Memory = Unit {0}

-- a node says so of what it is asked
abbrev pub IsRefusalOfAsk : Ask → Node → NodeFault → Type 0
IsRefusalOfAsk ask (IsStation s) (OfStation fault) = IsRowOrWant (row_of_ask ask s) fault
IsRefusalOfAsk ask (IsHub h) (OfHub fault) = IsHubFault h (bytes_of_ask ask) fault
IsRefusalOfAsk ask (IsStation s) (OfHub fault) = ⊥
IsRefusalOfAsk ask (IsHub h) (OfStation fault) = ⊥

-- it refuses, and not for want of memory of its own (L4): a hub copies nothing of what it is asked
abbrev pub IsNotMemory : CoreFault → Type 0
IsNotMemory code.Memory = ⊥
IsNotMemory code.WrongKind = Unit {0}
IsNotMemory (code.Node fault) = Unit {0}

-- where a node says that its records failed, this count of their failures rose
abbrev pub NodeWasCounted : NodeFault → (old new : ℕ) → Type 0
NodeWasCounted (OfStation fault) old new = fault ≡ station.Store → CountRose old new
NodeWasCounted (OfHub fault) old new = fault ≡ hub.Store → CountRose old new

abbrev pub WasCounted : CoreFault → (old new : ℕ) → Type 0
WasCounted (code.Node fault) old new = NodeWasCounted fault old new
WasCounted code.Memory old new = Unit {0}
WasCounted code.WrongKind old new = Unit {0}

-- How a call of a core counts the failures of its records: an Ok leaves the count as it was, and where
-- a refusal says that they failed, it rose.
pub record CountsCore {A : Type 0} (r : Result A CoreFault) (old new : ℕ) : Type 0 where
  pub ok : OnOk r (new ≡ old)
  pub refused : IfErr r (λ f. WasCounted f old new)
