-- the stamps so far, and those of what is left, are all
use Rattle.std.proofs.Common.{◌≡◌, ◌++◌, drop, map}
use Rattle.x12_nodes.specs.Check.{stamps_of}
use Rattle.x12_nodes.specs.View.{log_entry_view}
use Rattle.x12_nodes.proofs.looking.stamps.Given as goal

abbrev pub invariant-loop-entry : goal.invariant-loop-entry
invariant-loop-entry l =
    l.stamps.items ++ stamps_of (map log_entry_view (drop l.entry-index l.log)) ≡ stamps_of (map log_entry_view l.log)
