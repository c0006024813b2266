-- How many packets a node sends at most, by what it is asked and what it has in memory: whether its
-- records answer or not.
use Rattle.std.specs.Prelude.{ℕ, ◌≤◌, length}
use Rattle.x12_core.specs.Action.{Tick, Collect}
use Rattle.x12_core.specs.Ask.{Ask, Do}
use Rattle.x12_core.specs.declared.node_core.Answer.{Answer}
use Rattle.x12_core.specs.declared.node_core.Answer.TheVariants as answer
use Rattle.x12_core.specs.declared.node_core.Core.{Core}
use Rattle.x12_core.specs.declared.node_core.Core.TheVariants as core
use Rattle.x12_core.specs.Sends.{sends_view}
use Rattle.x12_hub.specs.HubView.{HubMemory, waiting_for}
use Rattle.x12_outbound.specs.Ledger.{open_interchanges}
use Rattle.x12_station.specs.Seen.{StationMemory}

-- a station at a tick what is open, and else two
abbrev pub station_bound : Ask → StationMemory → ℕ
station_bound (Do (Tick now)) m = open_interchanges m.ledger
station_bound ask m = 2

-- a hub at a collection what waits, and else two
abbrev pub hub_bound : Ask → HubMemory → ℕ
hub_bound (Do (Collect node)) m = waiting_for m node
hub_bound ask m = 2

abbrev pub core_bound : {R H : Type 0} → Ask → Core R H → ℕ
core_bound ask (core.Station s) = station_bound ask s.memory
core_bound ask (core.Hub h) = hub_bound ask h.memory

-- an answer with so many packets, at most
abbrev pub SendsAtMost : ℕ → Answer → Type 0
SendsAtMost most (answer.Sent sends) = length (sends_view sends) ≤ most
SendsAtMost most (answer.Fate fate) = Unit {0}
