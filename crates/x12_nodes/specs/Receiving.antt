-- What is checked of the passes of a network's callers.
use Rattle.std.specs.Prelude.{◌&&◌, ◌==◌, ℕ, List, Bool, false, Option, Some, None, map, option_and_then}
use Rattle.std.specs.List.{list_all, list_any}
use Rattle.x12_nodes.specs.Cell.{CellView}
use Rattle.x12_nodes.specs.Cells.{cell_at}
use Rattle.x12_nodes.specs.Comparing.{answer_is, ask_is}
use Rattle.x12_nodes.specs.Finding.{entry_at}
use Rattle.x12_nodes.specs.Log.{LogEntry}
use Rattle.x12_nodes.specs.Merging.{all_merged, stamp_itself, stamps_rise_from}
use Rattle.x12_nodes.specs.View.{Receipt}

-- there is an entry, and the receipt is of it: it has its ask and its answer
abbrev pub receipt_is : Receipt → Option LogEntry → Bool
receipt_is r None = false
receipt_is r (Some e) = ask_is e.ask r.ask && answer_is e.answer r.answer

-- a receipt is of the entry with its stamp, in the log of its node
abbrev pub receipt_stands : List CellView → Receipt → Bool
receipt_stands cells r = receipt_is r
    (option_and_then (λ (c : CellView). entry_at c.log r.stamp) (cell_at cells r.node))

-- the stamps of a pass
abbrev pub stamps_received : List Receipt → List ℕ
stamps_received pass = map (λ (r : Receipt). r.stamp) pass

-- the stamps of all passes, merged
abbrev pub stamps_passed : List (List Receipt) → List ℕ
stamps_passed passes = all_merged stamp_itself (map stamps_received passes)

-- each receipt stands in a log; merged, the passes' stamps rise, so that none stands twice or out of
-- order
abbrev pub all_received : List CellView → List (List Receipt) → Bool
all_received cells passes = list_all (list_all (receipt_stands cells)) passes
    && stamps_rise_from 0 (stamps_passed passes)

-- a pass has a receipt under this stamp
abbrev pub is_received : List (List Receipt) → ℕ → Bool
is_received passes stamp = list_any (list_any (λ (r : Receipt). r.stamp == stamp)) passes

-- no entry of a log is in no pass
abbrev pub no_stranger : List CellView → List (List Receipt) → Bool
no_stranger cells passes =
    list_all (λ (c : CellView). list_all (λ (e : LogEntry). is_received passes e.stamp) c.log) cells
