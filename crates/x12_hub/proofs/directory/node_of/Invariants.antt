-- the entries so far are other parties'
use Rattle.std.proofs.Common.{◌≡◌, map, drop}
use Rattle.x12_hub.specs.Hub.{mailbox_of}
use Rattle.x12_hub.specs.Record.{mailbox_view}
use Rattle.x12_hub.proofs.directory.node_of.Given as goal

abbrev pub invariant-loop-entry : goal.invariant-loop-entry
invariant-loop-entry l = mailbox_of (map mailbox_view l.directory) l.party ≡ mailbox_of (map mailbox_view (drop l.entry-index l.directory)) l.party
