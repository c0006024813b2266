-- the records stay as sound as they were
use Rattle.x12_mailbox.proofs.numbers.add_of_items.Given as goal

abbrev pub invariant-loop-item : goal.invariant-loop-item
invariant-loop-item g l = g.H.HubRecords.valid l.records
