-- what is left decides
use Rattle.std.proofs.Common.{◌≡◌, drop, map}
use Rattle.std.specs.List.{list_all}
use Rattle.x12_nodes.specs.Check.{asks_for_node}
use Rattle.x12_nodes.specs.Log.{LogEntry}
use Rattle.x12_nodes.specs.View.{log_entry_view}
use Rattle.x12_nodes.proofs.checking.log_is_for_nodes.Given as goal

abbrev pub invariant-loop-entry : goal.invariant-loop-entry
invariant-loop-entry g l =
    list_all (λ (e : LogEntry). asks_for_node l.cells l.hub e.ask) (map log_entry_view (drop l.entry-index l.log))
    ≡ list_all (λ (e : LogEntry). asks_for_node l.cells l.hub e.ask) (map log_entry_view l.log)
