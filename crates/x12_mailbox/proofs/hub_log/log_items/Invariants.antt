-- the records stay as sound as they were
use Rattle.x12_mailbox.proofs.hub_log.log_items.Given as goal

abbrev pub invariant-loop-item : goal.invariant-loop-item
invariant-loop-item g l = g.H.HubRecords.valid l.records
