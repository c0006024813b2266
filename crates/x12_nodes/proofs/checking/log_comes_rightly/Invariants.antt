-- what is left decides
use Rattle.std.proofs.Common.{◌≡◌, drop, map}
use Rattle.std.specs.List.{list_all}
use Rattle.x12_nodes.specs.Check.{came_rightly}
use Rattle.x12_nodes.specs.Log.{LogEntry}
use Rattle.x12_nodes.specs.View.{log_entry_view}
use Rattle.x12_nodes.proofs.checking.log_comes_rightly.Given as goal

abbrev pub invariant-loop-entry : goal.invariant-loop-entry
invariant-loop-entry g l =
    list_all (λ (e : LogEntry). came_rightly l.cells l.node e.stamp e.ask) (map log_entry_view (drop l.entry-index l.log))
    ≡ list_all (λ (e : LogEntry). came_rightly l.cells l.node e.stamp e.ask) (map log_entry_view l.log)
