-- A network that is settled: its logs are one run, and the passes of its callers tell it.
use Rattle.std.specs.Prelude.{◌≡◌, ◌<◌, ◌==◌, ℕ, List, Some, Contains, filter, length, map, slice_get}
use Rattle.x12_envelopes.specs.declared.party.Party.{Party}
use Rattle.x12_nodes.specs.Cell.{CellView}
use Rattle.x12_nodes.specs.Merge.{Logged}
use Rattle.x12_nodes.specs.Settling.{AreOneRun}
use Rattle.x12_nodes.specs.View.{Receipt, receipt_of}
use Rattle.x12_profile.specs.X12.{x12}
use Rattle.x12_world.specs.Headline.{Headline}
use Rattle.x12_world.specs.Run.{run}
use Rattle.x12_world.specs.World.{Event}

-- a receipt, and the pass that has it
pub record PassReceipt : Type 0 where
  pub pass : ℕ
  pub receipt : Receipt

-- the receipts that a pass has, in their order
abbrev pub receipts_in : ℕ → List PassReceipt → List Receipt
receipts_in j held =
    map (λ (h : PassReceipt). h.receipt) (filter (λ (h : PassReceipt). h.pass == j) held)

-- the passes have a receipt of each entry of the merge, each once and in their order, and no other
pub record AreReceiptsOf (merge : List Logged) (passes : List (List Receipt)) : Type 0 where
  pub held : List PassReceipt
  pub all : map (λ (h : PassReceipt). h.receipt) held
      ≡ map (λ (x : Logged). receipt_of x.node x.entry) merge
  pub each : (j : ℕ) (p : List Receipt) → slice_get passes j ≡ Some p → receipts_in j held ≡ p
  pub within : (h : PassReceipt) → Contains held h → h.pass < length passes

-- a network is settled: its logs are one run, of which the headline holds, and the passes have what
-- happened in it and nothing else
pub record AreSettled (cells : List CellView) (passes : List (List Receipt)) : Type 0 where
  pub one_run : AreOneRun cells
  pub receipts : AreReceiptsOf one_run.merge passes
  pub headline : (more : List Event)
      → Headline x12 one_run.is_run.world (run x12 more one_run.is_run.world)

-- what is seen of a settlement: the cells of its nodes, the passes, and the parties of the wire
pub record SettlementView : Type 0 where
  pub cells : List CellView
  pub passes : List (List Receipt)
  pub wire : List Party
