-- what is listed so far, and what is left, is all
use Rattle.std.proofs.Common.{◌≡◌, ◌++◌, drop, map}
use Rattle.x12_nodes.specs.Unlocking.{listed_in}
use Rattle.x12_nodes.specs.View.{log_entry_view}
use Rattle.x12_nodes.proofs.unlocking.list_log.Given as goal

abbrev pub invariant-loop-entry : goal.invariant-loop-entry
invariant-loop-entry l =
    l.submitted.items ++ listed_in l.node (map log_entry_view (drop l.entry-index l.log))
    ≡ l.initial.submitted.items ++ listed_in l.node (map log_entry_view l.log)
